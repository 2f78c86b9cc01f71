use Rattle.std.proofs.Common.{ap, not, sym, ◌&&◌, ◌∙◌}
use Rattle.schema_values.specs.SoundTest.{are_distinct}
use Rattle.path_templates.specs.Templates.{names_of}
use Rattle.path_templates.proofs.Arranged.{named_first}
use Rattle.path_templates.proofs.segments.is_new.Goals as goal

pub returns-in-Some : goal.returns-in-Some
returns-in-Some c =
    named_first c.args.segment.now c.in-Some.name.now c.args.others.now c.in-Some.ensures
    ∙ ap (λ named. not named && are_distinct (names_of c.args.others.now)) (sym c.is_named.ensures)
