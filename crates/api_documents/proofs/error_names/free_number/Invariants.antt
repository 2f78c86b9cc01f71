use Rattle.std.proofs.Common.{◌≡◌, ◌+◌, ◌-◌, length}
use Rattle.api_documents.specs.ErrorNames.{free_from, given_names}
use Rattle.api_documents.proofs.error_names.free_number.Given as goal

-- no number so far makes the name free
abbrev pub invariant-loop-tried : goal.invariant-loop-tried
invariant-loop-tried l =
    free_from (given_names l.named) l.name 2 (length l.named)
    ≡ free_from (given_names l.named) l.name (l.tried + 2) (length l.named - l.tried)
