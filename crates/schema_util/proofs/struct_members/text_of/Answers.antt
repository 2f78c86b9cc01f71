use Rattle.std.proofs.Common.{ap, ◌∙◌}
use Rattle.std.proofs.Math.Utf8.{encodes}
use Rattle.std.proofs.lemmas.Result.{IfOk-weaker}
use Rattle.std.proofs.lemmas.Str.{encodes-chars}
use Rattle.schema_util.proofs.struct_members.text_of.Goals as goal

pub returns : goal.returns
returns c = IfOk-weaker c.from_str.result _ _ (λ text e. ap encodes e ∙ encodes-chars c.args.name.now c.utf8.name) c.from_str.ensures
