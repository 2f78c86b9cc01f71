use Rattle.path_templates.proofs.Spelled.{spelled}
use Rattle.path_templates.proofs.laws.templates_are_spelled.Goals as goal

pub returns : goal.returns
returns c = spelled
