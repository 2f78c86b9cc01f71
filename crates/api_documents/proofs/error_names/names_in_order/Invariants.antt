use Rattle.std.proofs.Common.{◌≡◌, drop}
use Rattle.api_documents.specs.ErrorNames.{given_names}
use Rattle.api_documents.specs.Ordered.{in_text_order, with_texts}
use Rattle.api_documents.proofs.error_names.names_in_order.Given as goal

-- the names so far, with those that are left behind them
abbrev pub invariant-loop-other : goal.invariant-loop-other
invariant-loop-other l =
    in_text_order (given_names l.named) ≡ with_texts l.names.keys (given_names (drop l.other-index l.named))
