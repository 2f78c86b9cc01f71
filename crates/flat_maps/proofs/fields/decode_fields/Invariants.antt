use Rattle.std.proofs.Common.{◌≡◌, drop}
use Rattle.typed_values.specs.Denotes.{by_presence, all_told}
use Rattle.flat_maps.specs.Flat.{looked_up}
use Rattle.flat_maps.proofs.Loops.{after}
use Rattle.flat_maps.proofs.fields.decode_fields.Given as goal

abbrev pub invariant-loop-field : goal.invariant-loop-field
invariant-loop-field g l =
    let value = looked_up l.table (g.L.LookUp.names l.names) in
    all_told (λ i f. by_presence f (value f)) 0 l.fields ≡ after l.trees (all_told (λ i f. by_presence f (value f)) l.field-index (drop l.field-index l.fields))
