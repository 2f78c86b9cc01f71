use Rattle.std.proofs.Common.{◌∙◌, ap}
use Rattle.schema_values.proofs.CallerLemmas.{chars-all_ascii}
use Rattle.schema_values.specs.Get.{get_of}
use Rattle.page_tokens.proofs.form.member.Goals as goal

pub returns : goal.returns
returns c = c.get.ensures ∙ ap (λ name. get_of name c.args.object.now) (chars-all_ascii c.args.name.now c.requires)
