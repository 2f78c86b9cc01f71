use Rattle.std.proofs.Common.{◌≡◌, drop, fold, map}
use Rattle.api_documents.specs.Components.{error_entry}
use Rattle.api_documents.specs.Ordered.{by_name, with_entry}
use Rattle.api_documents.proofs.components.responses.Given as goal

-- the responses so far, with those that are left behind them
abbrev pub invariant-loop-error : goal.invariant-loop-error
invariant-loop-error l =
    by_name (map error_entry l.named)
    ≡ fold with_entry l.responses.entries (map error_entry (drop l.error-index l.named))
