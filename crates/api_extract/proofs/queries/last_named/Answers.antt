use Rattle.std.proofs.Common.{sym, ap, ◌∙◌}
use Rattle.request_words.specs.Pairs.{values_of}
use Rattle.api_extract.proofs.NamedPairs.{value_elsewhere, value_here}
use Rattle.api_extract.proofs.queries.last_named.Goals as goal

pub loop-pair-preserved : goal.loop-pair-preserved
loop-pair-preserved c =
    let name = c.args.name.now in
    sym (value_elsewhere name c.in-Some.earlier.now c.in-Some.pair.now (sym c.is_word.ensures ∙ c.if-is_word.false))
    ∙ ap (values_of name) (sym c.in-Some.ensures.cases.0)
    ∙ c.loop-pair.invariant

pub returns-then-is_word : goal.returns-then-is_word
returns-then-is_word c =
    let name = c.args.name.now in
    sym c.loop-pair.invariant
    ∙ ap (values_of name) c.in-Some.ensures.cases.0
    ∙ value_here name c.in-Some.earlier.now c.in-Some.pair.now (sym c.is_word.ensures ∙ c.if-is_word.true)
