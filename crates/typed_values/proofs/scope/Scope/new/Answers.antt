use Rattle.typed_values.proofs.Soundness.{guarded_rests}
use Rattle.typed_values.proofs.scope.Scope.new.Goals as goal

pub invariant_of-result : goal.invariant_of-result
invariant_of-result c = record { all_rest = guarded_rests _ _ c.requires }
