use Rattle.std.proofs.Common.{sym, ap, ◌∙◌}
use Rattle.std.proofs.Math.Utf8.{encodes, scalars}
use Rattle.std.proofs.lemmas.Str.{encodes-chars, scalars-chars}
use Rattle.std.proofs.lemmas.Result.{IfOk-weaker}
use Rattle.schema_values.proofs.ScalarLemmas.{IsScalarText-from}
use Rattle.schema_values.proofs.one_pass.name_of_key.Goals as goal

pub returns-clause-bytes : goal.returns-clause-bytes
returns-clause-bytes c = IfOk-weaker c.from_str.result _ _ (λ name is. sym (ap encodes is ∙ encodes-chars c.args.key.now c.utf8.key)) c.from_str.ensures

pub returns-clause-scalar : goal.returns-clause-scalar
returns-clause-scalar c = IfOk-weaker c.from_str.result _ _ (λ name is. IsScalarText-from name (ap scalars is ∙ scalars-chars c.args.key.now c.utf8.key)) c.from_str.ensures
