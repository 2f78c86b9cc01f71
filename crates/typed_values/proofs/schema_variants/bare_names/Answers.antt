use Rattle.std.proofs.Common.{arith}
use Rattle.std.proofs.lemmas.Grind.{common_steps}
use Rattle.typed_values.proofs.schema_variants.bare_names.Goals as goal

pub loop-variant-preserved : goal.loop-variant-preserved
loop-variant-preserved c = λ table. grind (arith, common_steps, c.loop-variant.invariant table)

pub returns : goal.returns
returns c = λ table. grind (arith, common_steps, c.loop-variant.invariant table)
