use Rattle.std.proofs.Common.{◌≡◌, [], fold, take}
use Rattle.std.specs.List.{flat_map}
use Rattle.path_templates.specs.Places.{places_at}
use Rattle.api_documents.specs.ErrorNames.{listed_errors, with_error}
use Rattle.api_documents.specs.Places.{at_places}
use Rattle.api_documents.proofs.documents.named_errors.Given as goal

-- the errors at the paths so far under their names
abbrev pub invariant-loop-path : goal.invariant-loop-path
invariant-loop-path l =
    l.named ≡ fold with_error []
    (listed_errors
    (flat_map (λ path. at_places l.declarations (places_at l.listed_paths.index path))
    (take l.path-index l.path-items)))
