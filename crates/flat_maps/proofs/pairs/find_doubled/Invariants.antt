use Rattle.std.proofs.Common.{◌≡◌, drop}
use Rattle.flat_maps.specs.Pairs.{first_doubled}
use Rattle.flat_maps.proofs.pairs.find_doubled.Given as goal

abbrev pub invariant-loop-field : goal.invariant-loop-field
invariant-loop-field l = first_doubled l.sorted.pairs.now l.fields ≡ first_doubled l.sorted.pairs.now (drop l.field-index l.fields)
