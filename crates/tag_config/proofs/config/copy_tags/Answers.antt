use Rattle.std.proofs.Common.{◌++◌, sym, ◌∙◌, ap}
use Rattle.std.proofs.lemmas.List.{append-nil}
use Rattle.schema_values.proofs.CallerLemmas.{one_more}
use Rattle.tag_config.proofs.config.copy_tags.Goals as goal

pub loop-name-preserved-in_ok-insert : goal.loop-name-preserved-in_ok-insert
loop-name-preserved-in_ok-insert c =
    rw (c.in_ok-insert.ensures.entries, c.in_ok-copy.ensures, c.in_ok-copy-2.ensures)
    (one_more c.args.tags.now.entries c.loop-name.copies.entries c.loop-name.name-iterator (c.in-Some.name.now, c.in-Some.details.now) c.next.new.self c.loop-name.invariant c.in-Some.ensures.steps c.iter-name-items.ensures.ordered)

pub loop-name-preserved-in_ok-insert-2 : goal.loop-name-preserved-in_ok-insert-2
loop-name-preserved-in_ok-insert-2 c =
    rw (c.in_ok-insert.ensures.entries, c.in_ok-copy.ensures, c.in_ok-copy-2.ensures)
    (one_more c.args.tags.now.entries c.loop-name.copies.entries c.loop-name.name-iterator (c.in-Some.name.now, c.in-Some.details.now) c.next.new.self c.loop-name.invariant c.in-Some.ensures.steps c.iter-name-items.ensures.ordered)

pub loop-name-preserved : goal.loop-name-preserved
loop-name-preserved c =
    rw (c.in_ok-insert.ensures.entries, c.in_ok-copy.ensures, c.in_ok-copy-2.ensures)
    (one_more c.args.tags.now.entries c.loop-name.copies.entries c.loop-name.name-iterator (c.in-Some.name.now, c.in-Some.details.now) c.next.new.self c.loop-name.invariant c.in-Some.ensures.steps c.iter-name-items.ensures.ordered)

pub returns : goal.returns
returns c =
    let done = c.loop-name.copies.entries in
    sym (c.loop-name.invariant ∙ ap (λ es. done ++ es) c.in-None.ensures.steps.0 ∙ append-nil done)
