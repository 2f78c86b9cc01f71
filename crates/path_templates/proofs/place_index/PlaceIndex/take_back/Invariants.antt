use Rattle.std.proofs.Common.{◌≡◌, ℕ, List, length}
use Rattle.path_templates.specs.Places.{places_at, without_lasts}
use Rattle.path_templates.proofs.place_index.PlaceIndex.take_back.Given as goal

abbrev pub invariant-loop-key : goal.invariant-loop-key
invariant-loop-key l =
    (q : List ℕ) → without_lasts (places_at l.fn.self) l.keys q ≡ without_lasts (places_at l.self) l.rest q

abbrev pub decreases-loop-key : goal.decreases-loop-key
decreases-loop-key l = length l.rest
