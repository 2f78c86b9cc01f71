use Rattle.std.proofs.Common.{subst, refl, arith}
use Rattle.std.specs.Prelude.{All}
use Rattle.std.proofs.lemmas.List.{take_all}
use Rattle.std.proofs.lemmas.List.Elements.{All-more}
use Rattle.handler_shapes.specs.ShapeChecks.{SlotPasses}
use Rattle.handler_shapes.specs.ShapeLengths.{SlotHasShortLengths}
use Rattle.handler_shapes.proofs.checks.slots_pass.Goals as goal

pub loop-slot-preserved : goal.loop-slot-preserved
loop-slot-preserved c =
    let P = SlotPasses c.args.table.now in
    let passed = c.if-not-slot_passes.false in
    record {
      pass = All-more P c.args.slots.now c.loop-slot.slot-index c.slot-item.result (omega arith) c.loop-slot.invariant.pass (subst P c.slot-item.is (c.slot_passes.ensures.pass.0 passed));
      lengths = All-more SlotHasShortLengths c.args.slots.now c.loop-slot.slot-index c.slot-item.result (omega arith) c.loop-slot.invariant.lengths
          (subst SlotHasShortLengths c.slot-item.is (c.slot_passes.ensures.lengths passed));
    }

pub returns : goal.returns
returns c =
    let all = take_all c.loop-slot.slot-index c.args.slots.now (omega arith) in
    record {
      pass = (λ t. subst (All (SlotPasses c.args.table.now)) all c.loop-slot.invariant.pass, λ h. refl);
      lengths = λ t. subst (All SlotHasShortLengths) all c.loop-slot.invariant.lengths;
    }
