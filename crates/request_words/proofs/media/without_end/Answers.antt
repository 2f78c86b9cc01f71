use Rattle.std.proofs.Common.{sym, ap, ◌∙◌}
use Rattle.request_words.specs.MediaTypes.{without_end}
use Rattle.request_words.proofs.BlankLemmas.{without_end-other, without_end-blank}
use Rattle.request_words.proofs.media.without_end.Goals as goal

pub loop-last-preserved : goal.loop-last-preserved
loop-last-preserved c =
    sym (without_end-blank c.in-Some.front.now c.in-Some.last.now (sym c.is_blank.ensures ∙ c.if-not-is_blank.false)) ∙ ap without_end (sym c.in-Some.ensures.cases.0) ∙ c.loop-last.invariant

pub returns-then-not-is_blank : goal.returns-then-not-is_blank
returns-then-not-is_blank c =
    c.in-Some.ensures.cases.0
    ∙ sym (without_end-other c.in-Some.front.now c.in-Some.last.now (sym c.is_blank.ensures ∙ c.if-not-is_blank.true))
    ∙ ap without_end (sym c.in-Some.ensures.cases.0)
    ∙ c.loop-last.invariant
