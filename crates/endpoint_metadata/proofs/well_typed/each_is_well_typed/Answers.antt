use Rattle.std.proofs.Common.{subst, refl, arith}
use Rattle.std.specs.Prelude.{All}
use Rattle.std.proofs.lemmas.List.{take_all}
use Rattle.std.proofs.lemmas.List.Elements.{All-more}
use Rattle.endpoint_metadata.specs.WellTyped.{IsWellTyped}
use Rattle.endpoint_metadata.proofs.well_typed.each_is_well_typed.Goals as goal

pub loop-slot-preserved : goal.loop-slot-preserved
loop-slot-preserved c =
    let P = IsWellTyped c.args.table.now in
    All-more P c.args.slots.now c.loop-slot.slot-index c.slot-item.result (omega arith) c.loop-slot.invariant
    (subst P c.slot-item.is (c.is_well_typed.ensures.0 c.if-not-is_well_typed.false))

pub returns : goal.returns
returns c =
    let all = take_all c.loop-slot.slot-index c.args.slots.now (omega arith) in
    (λ t. subst (All (IsWellTyped c.args.table.now)) all c.loop-slot.invariant, λ h. refl)
