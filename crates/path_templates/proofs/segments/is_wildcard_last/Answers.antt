use Rattle.std.proofs.Common.{ap, not, sym, ◌∙◌}
use Rattle.path_templates.specs.Templates.{is_wildcard_last}
use Rattle.path_templates.proofs.Arranged.{wildcard_last}
use Rattle.path_templates.proofs.segments.is_wildcard_last.Goals as goal

pub returns-in-Some : goal.returns-in-Some
returns-in-Some c =
    ap not c.has_wildcard.ensures
    ∙ sym (ap is_wildcard_last c.in-Some.ensures.cases.0 ∙ wildcard_last c.in-Some.front.now c.in-Some.field-0-0.now)
