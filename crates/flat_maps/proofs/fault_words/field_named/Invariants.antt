use Rattle.std.proofs.Common.{◌≡◌, drop}
use Rattle.flat_maps.specs.FaultWords.{field_named}
use Rattle.flat_maps.proofs.fault_words.field_named.Given as goal

abbrev pub invariant-loop-field : goal.invariant-loop-field
invariant-loop-field l = field_named l.name l.fields ≡ field_named l.name (drop l.field-index l.fields)
