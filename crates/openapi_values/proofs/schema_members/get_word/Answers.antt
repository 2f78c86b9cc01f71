use Rattle.std.proofs.Common.{◌∙◌, ap}
use Rattle.schema_values.specs.Get.{get_of}
use Rattle.request_words.proofs.CallerLemmas.{chars-word}
use Rattle.openapi_values.proofs.schema_members.get_word.Goals as goal

pub returns : goal.returns
returns c = c.get.ensures ∙ ap (λ name. get_of name c.args.json.now) (chars-word c.args.name.now c.requires)
