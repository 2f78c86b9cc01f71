use Rattle.std.proofs.Common.{ap, ◌∙◌}
use Rattle.header_lists.specs.HeaderLists.{inserted}
use Rattle.api_respond.proofs.Inserted.{none_inserted, one_inserted, all_inserted}
use Rattle.api_respond.proofs.named_headers.insert_named.Goals as goal

pub loop-name-init : goal.loop-name-init
loop-name-init c = none_inserted _ _ _ (c.into_iter-name-iterator.ensures.into_iter_gives ∙ c.iter-name-items.ensures.rest)

pub loop-name-preserved : goal.loop-name-preserved
loop-name-preserved c =
    one_inserted c.args.named.now.entries c.loop-name.name-iterator c.next.new.self c.args.lines c.loop-name.all (c.in-Some.name.now, c.in-Some.text.now)
    c.in-Some.ensures.steps c.loop-name.invariant c.insert.new.self
    (c.in_ok-insert.ensures.ok ∙ ap (λ line. inserted line.0 line.1 c.loop-name.all) c.in_ok-field.ensures.line) c.in_ok-field.ensures.valid

pub returns-clause-lines : goal.returns-clause-lines
returns-clause-lines c = (all_inserted c.args.named.now.entries c.loop-name.name-iterator c.args.lines c.loop-name.all c.in-None.ensures.steps.0 c.loop-name.invariant).0

pub returns-clause-valid : goal.returns-clause-valid
returns-clause-valid c = (all_inserted c.args.named.now.entries c.loop-name.name-iterator c.args.lines c.loop-name.all c.in-None.ensures.steps.0 c.loop-name.invariant).1
