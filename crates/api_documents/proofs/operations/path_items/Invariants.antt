use Rattle.std.proofs.Common.{◌≡◌, map, take}
use Rattle.path_templates.specs.Places.{places_at}
use Rattle.api_documents.specs.Places.{item_at}
use Rattle.api_documents.proofs.operations.path_items.Given as goal

-- the paths so far with their operations
abbrev pub invariant-loop-path : goal.invariant-loop-path
invariant-loop-path l =
    l.items
    ≡ map (λ path. (path, item_at l.named l.declarations (places_at l.listed_paths.index path)))
    (take l.path-index l.path-items)
