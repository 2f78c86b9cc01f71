use Rattle.std.proofs.Common.{List, map, sym, ap, ◌∙◌}
use Rattle.std.proofs.lemmas.List.{map_push}
use Rattle.header_lists.specs.HeaderLists.{Line}
use Rattle.request_parts.specs.Wire.{wire_line}
use Rattle.request_words.specs.HeaderLines.{last_line}
use Rattle.request_words.proofs.CallerLemmas.{last_line-here, last_line-other}
use Rattle.header_texts.proofs.lines.last_line.Goals as goal

pub loop-line-preserved : goal.loop-line-preserved
loop-line-preserved c =
    let name = c.args.name.now in
    let earlier = c.in-Some.earlier.now in
    sym (last_line-other name (map wire_line earlier) (wire_line c.in-Some.line.now) (sym c.is_line_of.ensures ∙ c.if-is_line_of.false))
    ∙ ap (last_line name) (sym (map_push wire_line earlier c.in-Some.line.now))
    ∙ ap (λ (lines : List Line). last_line name (map wire_line lines)) (sym c.in-Some.ensures.cases.0)
    ∙ c.loop-line.invariant

pub returns-then-is_line_of : goal.returns-then-is_line_of
returns-then-is_line_of c =
    let name = c.args.name.now in
    let earlier = c.in-Some.earlier.now in
    sym (last_line-here name (map wire_line earlier) (wire_line c.in-Some.line.now) (sym c.is_line_of.ensures ∙ c.if-is_line_of.true))
    ∙ ap (last_line name) (sym (map_push wire_line earlier c.in-Some.line.now))
    ∙ ap (λ (lines : List Line). last_line name (map wire_line lines)) (sym c.in-Some.ensures.cases.0)
    ∙ c.loop-line.invariant
