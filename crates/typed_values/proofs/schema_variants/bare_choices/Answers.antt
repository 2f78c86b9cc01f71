use Rattle.std.proofs.Common.{arith}
use Rattle.std.proofs.lemmas.Grind.{common_steps}
use Rattle.typed_values.proofs.schema_variants.bare_choices.Goals as goal

pub returns : goal.returns
returns c = λ table. grind (arith, common_steps, c.in_ok-bare_names.ensures table)
