use Rattle.std.proofs.Common.{◌++◌, ◌∷◌, [], Some, ap, ◌∙◌, rules}
use Rattle.std.specs.Prelude.{unwrap_or}
use Rattle.std.proofs.lemmas.Result.{on_err_weaker, on_ok_weaker}
use Rattle.std.specs.BTreeMap.{get}
use Rattle.path_templates.specs.Places.{text_order}
use Rattle.path_templates.proofs.IndexLemmas.{place_added, place_kept}
use Rattle.path_templates.proofs.place_index.PlaceIndex.add.Goals as goal

pub returns-in-Some-clause-ok : goal.returns-in-Some-clause-ok
returns-in-Some-clause-ok c =
    let before = get text_order c.args.self.now.places in
    let after = get text_order (c.get_mut.follows.lender c.push.new.self) in
    let updates = ((c.get_mut.follows.holds c.push.new.self).3 (search rules)).0 in
    let value = ap (λ found. unwrap_or found [] ++ c.args.place ∷ []) c.in-Some.ensures.value in
    on_ok_weaker c.push.result
    (λ pushed. place_added before after c.args.key c.push.new.self updates c.args.place (pushed ∙ value))
    c.push.ensures.ok

pub returns-in-Some-clause-err : goal.returns-in-Some-clause-err
returns-in-Some-clause-err c =
    let before = get text_order c.args.self.now.places in
    let after = get text_order (c.get_mut.follows.lender c.push.new.self) in
    let updates = ((c.get_mut.follows.holds c.push.new.self).3 (search rules)).0 in
    on_err_weaker c.push.result
    (λ kept. place_kept before after c.args.key c.push.new.self updates (ap Some kept ∙ c.in-Some.ensures.value))
    c.push.ensures.err

pub returns-in_ok-insert-in-None-clause-ok : goal.returns-in_ok-insert-in-None-clause-ok
returns-in_ok-insert-in-None-clause-ok c =
    let updates = rw c.get_mut.follows.holds-at-none at c.in_ok-insert-in-None.ensures.updates in
    let empty = ap (λ found. unwrap_or found [] ++ c.args.place ∷ []) c.in-None.ensures.value in
    let one = rw c.new-places.ensures at c.in_ok-push-in-None.ensures.ok in
    let before = get text_order c.args.self.now.places in
    place_added before (get text_order c.insert.new.self) c.args.key c.push-in-None.new.self updates.0 c.args.place
    (one ∙ empty)
