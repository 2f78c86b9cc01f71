use Rattle.std.proofs.Common.{subst, arith}
use Rattle.std.specs.Prelude.{All}
use Rattle.std.proofs.lemmas.List.{take_all}
use Rattle.std.proofs.lemmas.List.Elements.{All-more}
use Rattle.handler_shapes.specs.ShapeChecks.{SlotPasses}
use Rattle.endpoint_notation.proofs.reading.all_pass.Goals as goal

pub loop-slot-preserved : goal.loop-slot-preserved
loop-slot-preserved c =
    let P = SlotPasses c.args.table.now in
    All-more P c.args.slots.now c.loop-slot.slot-index c.slot-item.result (omega arith) c.loop-slot.invariant
    (subst P c.slot-item.is (c.slot_passes.ensures.pass.0 c.if-not-slot_passes.false))

pub returns : goal.returns
returns c =
    λ t. subst (All (SlotPasses c.args.table.now))
    (take_all c.loop-slot.slot-index c.args.slots.now (omega arith)) c.loop-slot.invariant
