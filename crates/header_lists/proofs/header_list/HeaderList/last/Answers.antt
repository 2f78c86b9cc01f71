use Rattle.std.proofs.Common.{◌∙◌, ap, sym}
use Rattle.header_lists.specs.HeaderLists.{last_of}
use Rattle.header_lists.proofs.Values.{last_of-here}
use Rattle.header_lists.proofs.header_list.HeaderList.last.Goals as goal

pub returns-then-is_line_of : goal.returns-then-is_line_of
returns-then-is_line_of c =
    sym (last_of-here c.args.name.now c.in-Some.earlier.now c.in-Some.line.now
    (sym c.is_line_of.ensures ∙ c.if-is_line_of.true))
    ∙ ap (last_of c.args.name.now) (sym c.in-Some.ensures.cases.0)
    ∙ c.loop-line.invariant
