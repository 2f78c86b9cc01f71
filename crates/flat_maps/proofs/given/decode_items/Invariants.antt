use Rattle.std.proofs.Common.{◌≡◌, drop}
use Rattle.typed_values.specs.Denotes.{all_told}
use Rattle.flat_maps.specs.Flat.{told_item}
use Rattle.flat_maps.proofs.Loops.{after}
use Rattle.flat_maps.proofs.given.decode_items.Given as goal

abbrev pub invariant-loop-i : goal.invariant-loop-i
invariant-loop-i l = all_told (told_item l.table l.item) 0 l.texts ≡ after l.trees (all_told (told_item l.table l.item) l.i (drop l.i l.texts))
