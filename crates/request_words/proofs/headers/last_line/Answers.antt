use Rattle.std.proofs.Common.{Some, sym, ap, ◌∙◌}
use Rattle.request_words.specs.HeaderLines.{last_line}
use Rattle.request_words.proofs.LastLine.{last_line-here, last_line-other}
use Rattle.request_words.proofs.headers.last_line.Goals as goal

pub loop-line-preserved : goal.loop-line-preserved
loop-line-preserved c =
    sym (last_line-other c.args.name.now c.in-Some.earlier.now c.in-Some.line.now (sym c.is_line_of.ensures ∙ c.if-is_line_of.false))
    ∙ ap (last_line c.args.name.now) (sym c.in-Some.ensures.cases.0)
    ∙ c.loop-line.invariant

pub returns-then-is_line_of : goal.returns-then-is_line_of
returns-then-is_line_of c =
    ap Some c.as_slice.ensures
    ∙ sym (last_line-here c.args.name.now c.in-Some.earlier.now c.in-Some.line.now (sym c.is_line_of.ensures ∙ c.if-is_line_of.true))
    ∙ ap (last_line c.args.name.now) (sym c.in-Some.ensures.cases.0)
    ∙ c.loop-line.invariant
