use Rattle.std.proofs.Common.{◌≡◌, drop}
use Rattle.path_templates.specs.Places.{first_at}
use Rattle.api_documents.specs.Places.{has_method}
use Rattle.api_documents.proofs.listed.at_method.Given as goal

-- none at the places so far is served by the method
abbrev pub invariant-loop-place : goal.invariant-loop-place
invariant-loop-place l =
    first_at (has_method l.method) l.declarations l.places
    ≡ first_at (has_method l.method) l.declarations (drop l.place-index l.places)
