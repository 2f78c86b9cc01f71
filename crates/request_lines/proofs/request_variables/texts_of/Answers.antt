use Rattle.std.proofs.Common.{◌∙◌, [], ◌∷◌, ◌++◌, List, ap, length, ℕ, subst, sym}
use Rattle.std.specs.List.{AllZip}
use Rattle.std.proofs.lemmas.Iterator.Adapters.{YieldsList-from_vec}
use Rattle.std.proofs.lemmas.Iterator.Consumers.{YieldsList-end, YieldsList-turn}
use Rattle.std.proofs.lemmas.List.{map-id}
use Rattle.schema_values.specs.declared.json_value.Json.{Json}
use Rattle.request_lines.specs.Said.{IsText}
use Rattle.request_lines.proofs.ListLemmas.{zip_fails, zip_push}
use Rattle.request_lines.proofs.request_variables.texts_of.Goals as goal

pub returns-in_err-text_in-clause-bad : goal.returns-in_err-text_in-clause-bad
returns-in_err-text_in-clause-bad c bad texts zip =
    let all = c.into_vec-item-items.result.items in
    let it = c.into_iter-item-iterator in
    let so_far = c.loop-item.yielded in
    let road = YieldsList-from_vec {s = it.result} all it.ensures.into_iter_gives.0
    (it.result.rest.ok.0 ∙ ap length it.ensures.into_iter_gives.0) in
    let turn =
    YieldsList-turn road so_far c.loop-item.item-iterator c.loop-item.yielded_by c.next.result c.next.new.self
    c.in-Some.item c.in-Some.is c.next.ensures.steps in
    zip_fails IsText all texts (length so_far) c.in-Some.item turn.0 turn.1
    c.in_err-text_in.ensures.bad
    (subst (λ (items : List Json). AllZip IsText items texts) (sym c.into_vec-item-items.ensures) zip)

pub loop-item-preserved : goal.loop-item-preserved
loop-item-preserved c =
    let so_far = c.loop-item.yielded in
    subst (λ (texts : List (List ℕ)). AllZip IsText (so_far ++ c.in-Some.item ∷ []) texts)
    (sym c.in_ok-push.ensures.ok)
    (zip_push IsText so_far c.loop-item.texts c.in-Some.item _ c.loop-item.invariant c.in_ok-text_in.ensures.text)

pub returns-clause-texts : goal.returns-clause-texts
returns-clause-texts c =
    let all = c.into_vec-item-items.result.items in
    let it = c.into_iter-item-iterator in
    let road = YieldsList-from_vec {s = it.result} all it.ensures.into_iter_gives.0
    (it.result.rest.ok.0 ∙ ap length it.ensures.into_iter_gives.0) in
    let ended = YieldsList-end road c.loop-item.yielded c.loop-item.item-iterator c.loop-item.yielded_by c.next.result
    c.next.new.self c.in-None.is c.next.ensures.steps in
    subst (λ (items : List Json). AllZip IsText items c.loop-item.texts)
    (sym (map-id c.loop-item.yielded) ∙ ended.0 ∙ c.into_vec-item-items.ensures) c.loop-item.invariant
