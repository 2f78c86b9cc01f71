use Rattle.std.proofs.Common.{◌*◌, Some, None, sym, arith, add-one}
use Rattle.std.proofs.Math.ListN.{drop_of_length-le}
use Rattle.std.proofs.lemmas.Result.{err_from_is_err_and, on_ok_weaker, IfErr-weaker}
use Rattle.std.specs.HashMap.{get_by_text}
use Rattle.schema_values.specs.declared.schema.Schema.{size-Schema}
use Rattle.schema_util.specs.Code.{asked_of}
use Rattle.schema_util.specs.Met.{names_met}
use Rattle.schema_util.specs.References.{reason_of}
use Rattle.schema_util.specs.Scalars.{accepted, rejected, breaks, goes_on, of_members, none_left, at_first, at_rest, fault_of}
use Rattle.schema_util.proofs.Chains.{met_longer}
use Rattle.schema_util.proofs.Steps.{followed}
use Rattle.schema_util.proofs.Sizes.{falls, member_smaller}
use Rattle.schema_util.proofs.ScalarSteps.{next_member, members_smaller}
use Rattle.schema_util.proofs.scalar.+tested.Goals as goal

pub tested-returns-in_err-name-in-Reference-clause-faulty : goal.tested-returns-in_err-name-in-Reference-clause-faulty
tested-returns-in_err-name-in-Reference-clause-faulty t c =
    let p = err_from_is_err_and c.from_residual.result c.from_residual.ensures.1 in
    rw (p.1, p.2) (breaks c.in-Reference.reference.now (reason_of c.in_err-name-in-Reference.field-0.0) (sym c.in-Reference.ensures) (sym c.in_err-name-in-Reference.ensures))

pub tested-tested-requires : goal.tested-tested-requires
tested-tested-requires t c =
    let met = names_met c.args.met in
    let s = followed (get_by_text c.args.definitions.now) met c.in_ok-name-in-Reference.name.now c.in_ok-name-in-Reference.next.now c.in-Reference.reference.now (sym c.in_ok-name-in-Reference.ensures) in
    rw (met_longer c.in_ok-name-in-Reference.name c.args.met) (
      omega (arith, c.decreases, falls c.args.definitions.now.entries met c.in_ok-name-in-Reference.name.now c.in_ok-name-in-Reference.next.now 2 (2 * size-Schema c.args.schema.now) s.found s.unmet),
      tt,
    )

pub tested-returns-in_ok-name-in-Reference-clause-fits : goal.tested-returns-in_ok-name-in-Reference-clause-fits
tested-returns-in_ok-name-in-Reference-clause-fits t c =
    on_ok_weaker c.tested.result
    (goes_on c.in-Reference.reference.now c.in_ok-name-in-Reference.name.now c.in_ok-name-in-Reference.next.now None (sym c.in-Reference.ensures) (sym c.in_ok-name-in-Reference.ensures))
    (rw met_longer at c.tested.ensures.fits)

pub tested-returns-in_ok-name-in-Reference-clause-faulty : goal.tested-returns-in_ok-name-in-Reference-clause-faulty
tested-returns-in_ok-name-in-Reference-clause-faulty t c =
    IfErr-weaker c.tested.result _ _
    (λ error. goes_on c.in-Reference.reference.now c.in_ok-name-in-Reference.name.now c.in_ok-name-in-Reference.next.now (Some (fault_of error)) (sym c.in-Reference.ensures) (sym c.in_ok-name-in-Reference.ensures))
    (simp met_longer at c.tested.ensures.faulty)

pub tested-all_tested-requires : goal.tested-all_tested-requires
tested-all_tested-requires t c =
    (omega (arith, c.decreases, members_smaller (asked_of c.args.wanted) c.args.schema.now c.in-Members.members.now (sym c.in-Members.ensures)), tt)

pub tested-returns-in-Members-clause-fits : goal.tested-returns-in-Members-clause-fits
tested-returns-in-Members-clause-fits t c =
    on_ok_weaker c.all_tested.result (of_members c.in-Members.members.now None (sym c.in-Members.ensures)) c.all_tested.ensures.fit

pub tested-returns-in-Members-clause-faulty : goal.tested-returns-in-Members-clause-faulty
tested-returns-in-Members-clause-faulty t c =
    IfErr-weaker c.all_tested.result _ _ (λ error. of_members c.in-Members.members.now (Some (fault_of error)) (sym c.in-Members.ensures)) c.all_tested.ensures.faulty

pub tested-returns-in-Fits-clause-fits : goal.tested-returns-in-Fits-clause-fits
tested-returns-in-Fits-clause-fits t c = accepted (sym c.in-Fits.ensures)

pub tested-returns-in-Differs-clause-faulty : goal.tested-returns-in-Differs-clause-faulty
tested-returns-in-Differs-clause-faulty t c = rw c.refusal.ensures (rejected (sym c.in-Differs.ensures))

pub all_tested-tested-requires : goal.all_tested-tested-requires
all_tested-tested-requires t c =
    (omega (arith, c.decreases, member_smaller c.args.members.now c.loop-member.member-index c.member-item.result (omega arith) c.member-item.is), tt)

pub all_tested-loop-member-preserved : goal.all_tested-loop-member-preserved
all_tested-loop-member-preserved t c = λ fault rest.
    let place = next_member c.args.members.now c.loop-member.member-index c.member-item.result (omega arith) c.member-item.is in
    c.loop-member.invariant fault (rw place (at_rest fault c.in_ok-tested.ensures.fits (rw add-one at rest)))

pub all_tested-returns-in_err-tested-clause-faulty : goal.all_tested-returns-in_err-tested-clause-faulty
all_tested-returns-in_err-tested-clause-faulty t c =
    let p = err_from_is_err_and c.from_residual.result c.from_residual.ensures.1 in
    let fault = fault_of c.in_err-tested.field-0.0 in
    let place = next_member c.args.members.now c.loop-member.member-index c.member-item.result (omega arith) c.member-item.is in
    rw (p.1, p.2) (c.loop-member.invariant (Some fault) (rw place (at_first fault c.in_err-tested.ensures.faulty)))

pub all_tested-returns-clause-fit : goal.all_tested-returns-clause-fit
all_tested-returns-clause-fit t c = c.loop-member.invariant None (rw (drop_of_length-le c.args.members.now c.loop-member-test.false) none_left)
