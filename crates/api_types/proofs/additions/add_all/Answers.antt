use Rattle.std.proofs.Common.{subst, take}
use Rattle.std.proofs.lemmas.Result.{err_from_is_err_and}
use Rattle.descriptors.specs.Adding.{IsRefused}
use Rattle.api_types.specs.Types.{HoldsAll}
use Rattle.api_types.proofs.AddedInOrder.{added_next, held_next, refused_at}
use Rattle.api_types.proofs.additions.add_all.Goals as goal

pub returns-in_err-add_copy-clause-refused : goal.returns-in_err-add_copy-clause-refused
returns-in_err-add_copy-clause-refused c =
    let l = c.loop-definition in
    let table = c.args.table.now in
    let ds = c.args.definitions.now in
    let e = c.definition-item.result in
    let error = c.in_err-add_copy.field-0.0 in
    let p = err_from_is_err_and c.from_residual-in_err-add_copy.result c.from_residual-in_err-add_copy.ensures.1 in
    rw (p.1, p.2)
    (refused_at table ds l.definition-index e error c.loop-definition-test.true c.definition-item.is (subst (λ es. HoldsAll es (take l.definition-index ds)) l.invariant.is l.invariant.held) (subst (λ es. IsRefused es e error) l.invariant.is c.in_err-add_copy.ensures.refused))

pub loop-definition-preserved : goal.loop-definition-preserved
loop-definition-preserved c =
    let l = c.loop-definition in
    let table = c.args.table.now in
    let ds = c.args.definitions.now in
    let e = c.definition-item.result in
    let made = c.in_ok-add_copy in
    record {
      is = added_next table ds l.definition-index e c.loop-definition-test.true c.definition-item.is l.all c.add_copy.new.table made.field-0 made.ensures.added l.invariant.is;
      held = held_next table ds l.definition-index e c.loop-definition-test.true c.definition-item.is l.all c.add_copy.new.table made.field-0 made.ensures.added l.invariant.held;
    }
