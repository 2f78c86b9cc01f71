use Rattle.typed_values.proofs.Inside.{ranges_right}
use Rattle.typed_values.proofs.Soundness.{guarded_rests}
use Rattle.typed_values.proofs.scope.Decoder.new.Goals as goal

pub invariant_of-result : goal.invariant_of-result
invariant_of-result c = record {
  all_rest = guarded_rests _ _ c.requires.table.guarded;
  ranged = ranges_right _ _ c.requires.table c.requires.whole;
}
