use Rattle.std.proofs.Common.{◌≡◌, ◌+◌, ◌-◌, ◌&&◌, Bool, not, refl, sym, ◌∙◌, ap, arith}
use Rattle.typed_values.proofs.AscendingKeys.{ascend_from, ascending_step, ascending_end}
use Rattle.typed_values.proofs.fitting.keys_ascend.Goals as goal

pub loop-index-init : goal.loop-index-init
loop-index-init c = refl

pub returns-then-ge : goal.returns-then-ge
returns-then-ge c =
    let step = ascending_step c.args.pairs.now c.loop-index.index c.index-pairs-index.result c.index-pairs-index-in-loop-index.result (omega arith) c.loop-index-test.true c.ge.result c.ge.ensures in
    sym (c.loop-index.invariant ∙ step ∙ ap (λ (b : Bool). not b && ascend_from c.args.pairs.now c.loop-index.index) c.if-ge.true)

pub loop-index-preserved : goal.loop-index-preserved
loop-index-preserved c =
    let step = ascending_step c.args.pairs.now c.loop-index.index c.index-pairs-index.result c.index-pairs-index-in-loop-index.result (omega arith) c.loop-index-test.true c.ge.result c.ge.ensures in
    let back : c.loop-index.index ≡ c.loop-index.index + 1 - 1 = omega arith in
    c.loop-index.invariant ∙ step ∙ ap (λ (b : Bool). not b && ascend_from c.args.pairs.now c.loop-index.index) c.if-ge.false ∙ ap (ascend_from c.args.pairs.now) back

pub returns : goal.returns
returns c = sym (c.loop-index.invariant ∙ ascending_end c.args.pairs.now (c.loop-index.index - 1) (omega arith))
