use Rattle.std.proofs.Common.{◌∙◌}
use Rattle.path_templates.proofs.Texts.{same_texts}
use Rattle.path_templates.proofs.template.same_text.Goals as goal

pub returns : goal.returns
returns c = c.eq.ensures ∙ same_texts c.args.text.now c.args.other.now c.utf8.text c.utf8.other
