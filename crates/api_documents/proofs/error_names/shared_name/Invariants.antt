use Rattle.std.proofs.Common.{◌≡◌, drop}
use Rattle.api_documents.specs.ErrorNames.{shared_by}
use Rattle.api_documents.proofs.error_names.shared_name.Given as goal

-- none so far is the same
abbrev pub invariant-loop-other : goal.invariant-loop-other
invariant-loop-other l =
    shared_by l.error l.named ≡ shared_by l.error (drop l.other-index l.named)
