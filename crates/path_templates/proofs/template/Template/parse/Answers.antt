use Rattle.std.proofs.Common.{Some, None, rules}
use Rattle.path_templates.proofs.Spelled.{read_as}
use Rattle.path_templates.proofs.template.Template.parse.Goals as goal

pub returns-in-Some-clause-spelled : goal.returns-in-Some-clause-spelled
returns-in-Some-clause-spelled c = read_as c.args.path.now (Some c.in-Some.segments) (search rules)

pub returns-clause-spelled : goal.returns-clause-spelled
returns-clause-spelled c = read_as c.args.path.now None (search rules)
