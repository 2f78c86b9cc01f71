use Rattle.std.proofs.Common.{sym, subst}
use Rattle.std.specs.List.{AllByRecursion}
use Rattle.schema_values.specs.Sound.{IsSound}
use Rattle.request_admission.proofs.SoundOperations.{parameters_sound}
use Rattle.request_admission.proofs.check.parameters_hold.Goals as goal

pub all_hold-requires-clause-parameters : goal.all_hold-requires-clause-parameters
all_hold-requires-clause-parameters c = subst (AllByRecursion IsSound) (sym c.parameters_of-parameters.ensures) (parameters_sound c.args.operation.now c.requires.operation)
