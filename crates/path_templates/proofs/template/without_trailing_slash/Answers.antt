use Rattle.path_templates.proofs.Texts.{trimmed_text}
use Rattle.path_templates.proofs.template.without_trailing_slash.Goals as goal

pub returns : goal.returns
returns c = rw c.as_str.ensures (trimmed_text c.as_str.result.now c.without_slash.result.now c.as_str.utf8 c.without_slash.ensures)
