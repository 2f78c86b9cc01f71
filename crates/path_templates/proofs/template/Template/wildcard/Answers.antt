use Rattle.std.proofs.Common.{ap, ◌∙◌}
use Rattle.std.specs.Prelude.{find, option_and_then}
use Rattle.path_templates.specs.Templates.{is_wildcard, name_in}
use Rattle.path_templates.proofs.template.Template.wildcard.Goals as goal

pub returns-in-Some : goal.returns-in-Some
returns-in-Some c =
    c.variable_name.ensures ∙ ap (option_and_then name_in) (c.in-Some.ensures ∙ ap (find is_wildcard) c.segments.ensures)

pub returns-in-None : goal.returns-in-None
returns-in-None c = ap (option_and_then name_in) (c.in-None.ensures ∙ ap (find is_wildcard) c.segments.ensures)
