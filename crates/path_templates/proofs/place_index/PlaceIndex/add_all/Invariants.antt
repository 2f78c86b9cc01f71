use Rattle.std.proofs.Common.{◌≡◌, ℕ, List, take}
use Rattle.path_templates.specs.Places.{places_at, with_places}
use Rattle.path_templates.proofs.place_index.PlaceIndex.add_all.Given as goal

abbrev pub invariant-loop-index : goal.invariant-loop-index
invariant-loop-index l = (q : List ℕ) → places_at l.self q ≡ with_places (places_at l.fn.self) (take l.index l.keys) l.place q
