use Rattle.std.proofs.Common.{◌+◌, ◌≡◌, List, drop, sym, subst, ◌∙◌, ap, arith, false}
use Rattle.std.proofs.lemmas.Result.{err_from_is_err_and}
use Rattle.handler_shapes.specs.declared.slot.Slot.{Slot}
use Rattle.handler_shapes.specs.declared.arguments.Arg.{Arg}
use Rattle.handler_shapes.specs.BodySlots.{takes_body}
use Rattle.handler_shapes.specs.ShapeChecks.{SlotPasses}
use Rattle.api_extract.specs.Denotes.{args_by}
use Rattle.api_extract.specs.Extraction.{plainly_told}
use Rattle.api_extract.proofs.SlotLists.{args_before, given_end, given_err, given_step}
use Rattle.api_extract.proofs.shared.shared_arguments.Goals as goal

pub shared_argument-requires-clause-slot : goal.shared_argument-requires-clause-slot
shared_argument-requires-clause-slot c =
    subst (SlotPasses c.args.table.now) (sym c.slot-item.is)
    (c.requires.slots c.loop-slot.slot-index c.slot-item.result (omega arith))

pub shared_argument-requires-clause-shared : goal.shared_argument-requires-clause-shared
shared_argument-requires-clause-shared c =
    subst (λ (slot : Slot). takes_body slot ≡ false) (sym c.slot-item.is)
    (c.requires.shared c.loop-slot.slot-index c.slot-item.result (omega arith))

pub returns-in_err-arg : goal.returns-in_err-arg
returns-in_err-arg c =
    let slots = c.args.slots.now in
    let given = plainly_told c.args.table.now c.args.request.now in
    let p = err_from_is_err_and c.from_residual.result c.from_residual.ensures.1 in
    rw (p.1, p.2)
    (given_err given
    (args_by given slots) slots c.loop-slot.slot-index c.loop-slot.args c.loop-slot.invariant
    c.slot-item.result (omega arith) c.slot-item.is c.in_err-arg.field-0.0 c.in_err-arg.ensures)

pub loop-slot-preserved : goal.loop-slot-preserved
loop-slot-preserved c =
    let slots = c.args.slots.now in
    let given = plainly_told c.args.table.now c.args.request.now in
    given_step given
    (args_by given slots) slots c.loop-slot.slot-index c.loop-slot.args c.loop-slot.invariant c.slot-item.result
    (omega arith) c.slot-item.is _ c.in_ok-arg.ensures
    ∙ ap (λ (args : List Arg). args_before args (args_by given (drop (c.loop-slot.slot-index + 1) slots)))
    (sym c.in_ok-push.ensures.ok)

pub returns : goal.returns
returns c =
    let slots = c.args.slots.now in
    let given = plainly_told c.args.table.now c.args.request.now in
    given_end given (args_by given slots) slots c.loop-slot.slot-index c.loop-slot.args c.loop-slot.invariant
    (omega arith)
