use Rattle.std.proofs.Common.{◌≡◌, ◌++◌, drop, reverse}
use Rattle.typed_values.specs.Faults.{places_behind}
use Rattle.typed_values.proofs.path.push_places.Given as goal

abbrev pub invariant-loop-i : goal.invariant-loop-i
invariant-loop-i l = l.text ≡ l.fn.text ++ places_behind (reverse (drop l.i l.places))
