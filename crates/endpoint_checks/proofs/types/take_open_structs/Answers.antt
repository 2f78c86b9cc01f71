use Rattle.std.proofs.Common.{arith, refl, subst}
use Rattle.std.proofs.lemmas.List.{take_all}
use Rattle.std.proofs.lemmas.List.Elements.{All-contains, All-more}
use Rattle.std.specs.Prelude.{All}
use Rattle.endpoint_checks.specs.Types.{TakesOpenStruct}
use Rattle.endpoint_checks.proofs.types.take_open_structs.Goals as goal

pub loop-slot-preserved : goal.loop-slot-preserved
loop-slot-preserved c =
    let Takes = TakesOpenStruct c.args.table.now in
    All-more Takes c.args.slots.now c.loop-slot.slot-index c.slot-item.result (omega arith) c.loop-slot.invariant
    (subst Takes c.slot-item.is (c.takes_open_struct.ensures.0 c.if-not-takes_open_struct.false))

pub returns : goal.returns
returns c =
    let Takes = TakesOpenStruct c.args.table.now in
    let each = subst (All Takes) (take_all c.loop-slot.slot-index c.args.slots.now (omega arith)) c.loop-slot.invariant in
    (λ h slot inside. All-contains Takes c.args.slots.now slot each inside, λ h. refl)
