use Rattle.std.proofs.Common.{refl, sym, ◌∙◌, arith}
use Rattle.typed_values.proofs.Listed.{found_here, found_behind}
use Rattle.typed_values.proofs.order.find_named.Goals as goal

pub returns-then-equals : goal.returns-then-equals
returns-then-equals g c =
    sym (found_here g.T.HasName.name_of c.args.items.now c.args.name.now c.loop-place.place c.index-items-place.result (omega arith) c.index-items-place.is (sym c.name.ensures ∙ c.if-equals.ensures.0 refl))
    ∙ c.loop-place.invariant

pub loop-place-preserved : goal.loop-place-preserved
loop-place-preserved g c =
    sym (found_behind g.T.HasName.name_of c.args.items.now c.args.name.now c.loop-place.place c.index-items-place.result (omega arith) c.index-items-place.is (λ e. let t = c.if-equals.ensures.1 (c.name.ensures ∙ e) in absurd (cc t)))
    ∙ c.loop-place.invariant
