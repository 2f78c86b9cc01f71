use Rattle.std.proofs.Common.{◌≡◌, drop}
use Rattle.api_documents.specs.ErrorNames.{given_names, is_taken}
use Rattle.api_documents.proofs.error_names.is_taken.Given as goal

-- none so far has the name
abbrev pub invariant-loop-other : goal.invariant-loop-other
invariant-loop-other l =
    is_taken (given_names l.named) l.name ≡ is_taken (given_names (drop l.other-index l.named)) l.name
