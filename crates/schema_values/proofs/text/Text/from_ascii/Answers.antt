use Rattle.std.proofs.Common.{◌∙◌}
use Rattle.std.proofs.lemmas.Result.{IfOk-weaker}
use Rattle.schema_values.proofs.TextLemmas.{chars-all_ascii}
use Rattle.schema_values.proofs.text.Text.from_ascii.Goals as goal

pub returns : goal.returns
returns c = IfOk-weaker c.from_str.result _ _ (λ t is. is ∙ chars-all_ascii c.args.text.now c.requires) c.from_str.ensures
