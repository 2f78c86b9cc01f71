use Rattle.std.proofs.Common.{arith}
use Rattle.std.proofs.lemmas.Grind.{common_steps}
use Rattle.typed_values.proofs.schemas.required_names.Goals as goal

pub loop-field-preserved : goal.loop-field-preserved
loop-field-preserved c = λ table. grind (arith, common_steps, c.loop-field.invariant table)

pub returns : goal.returns
returns c = λ table. grind (arith, common_steps, c.loop-field.invariant table)
