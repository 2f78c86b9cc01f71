use Rattle.std.proofs.Common.{◌-◌, [], ap, length, take, ◌∙◌, rules}
use Rattle.std.specs.Prelude.{unwrap_or}
use Rattle.std.specs.BTreeMap.{get}
use Rattle.path_templates.specs.Places.{text_order}
use Rattle.path_templates.proofs.IndexLemmas.{nothing_taken, place_taken}
use Rattle.path_templates.proofs.place_index.PlaceIndex.take_last.Goals as goal

pub returns-in-Some : goal.returns-in-Some
returns-in-Some c =
    let before = get text_order c.args.self.now.places in
    let after = get text_order (c.get_mut.follows.lender c.drop_last.new.places) in
    let updates = ((c.get_mut.follows.holds c.drop_last.new.places).3 (search rules)).0 in
    place_taken before after c.args.key.now c.drop_last.new.places updates
    (c.drop_last.ensures ∙ ap (λ found. take (length (unwrap_or found []) - 1) (unwrap_or found [])) c.in-Some.ensures.value)

pub returns-in_default : goal.returns-in_default
returns-in_default c =
    rw c.get_mut.follows.holds-at-none (nothing_taken (get text_order c.args.self.now.places) c.args.key.now c.in_default.ensures.value)
