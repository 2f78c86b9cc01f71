use Rattle.std.proofs.Common.{◌∙◌, [], ◌∷◌, ◌++◌, List, ap, length, subst, sym}
use Rattle.std.specs.List.{AllZip}
use Rattle.std.proofs.lemmas.Iterator.Adapters.{YieldsList-from_vec}
use Rattle.std.proofs.lemmas.Iterator.Consumers.{YieldsList-end, YieldsList-turn}
use Rattle.std.proofs.lemmas.List.{map-id}
use Rattle.std.proofs.lemmas.Result.{err_from_is_err_and}
use Rattle.schema_values.specs.declared.json_value.Json.{Json}
use Rattle.header_lists.specs.HeaderLists.{Line}
use Rattle.request_lines.specs.Said.{IsLineOf}
use Rattle.request_lines.proofs.ListLemmas.{zip_fails, zip_push}
use Rattle.request_lines.proofs.request_head.lines_of.Goals as goal

pub returns-in_err-name-clause-bad : goal.returns-in_err-name-clause-bad
returns-in_err-name-clause-bad c bad lines zip =
    let all = c.into_vec-item-items.result.items in
    let it = c.into_iter-item-iterator in
    let so_far = c.loop-item.yielded in
    let road = YieldsList-from_vec {s = it.result} all it.ensures.into_iter_gives.0
    (it.result.rest.ok.0 ∙ ap length it.ensures.into_iter_gives.0) in
    let turn =
    YieldsList-turn road so_far c.loop-item.item-iterator c.loop-item.yielded_by c.next.result c.next.new.self
    c.in-Some.item c.in-Some.is c.next.ensures.steps in
    let made = err_from_is_err_and c.from_residual.result c.from_residual.ensures.1 in
    zip_fails IsLineOf all lines (length so_far) c.in-Some.item turn.0 turn.1
    (c.in_err-name.ensures.bad (cc (made.1, made.2, bad)))
    (subst (λ (items : List Json). AllZip IsLineOf items lines) (sym c.into_vec-item-items.ensures) zip)

pub loop-item-preserved : goal.loop-item-preserved
loop-item-preserved c =
    let so_far = c.loop-item.yielded in
    subst (λ (lines : List Line). AllZip IsLineOf (so_far ++ c.in-Some.item ∷ []) lines)
    (sym c.in_ok-append.ensures.ok)
    (zip_push IsLineOf so_far c.loop-item.lines c.in-Some.item _ c.loop-item.invariant c.in_ok-name.ensures.line)

pub returns-clause-lines : goal.returns-clause-lines
returns-clause-lines c =
    let all = c.into_vec-item-items.result.items in
    let it = c.into_iter-item-iterator in
    let road = YieldsList-from_vec {s = it.result} all it.ensures.into_iter_gives.0
    (it.result.rest.ok.0 ∙ ap length it.ensures.into_iter_gives.0) in
    let ended = YieldsList-end road c.loop-item.yielded c.loop-item.item-iterator c.loop-item.yielded_by c.next.result
    c.next.new.self c.in-None.is c.next.ensures.steps in
    subst (λ (items : List Json). AllZip IsLineOf items c.loop-item.lines)
    (sym (map-id c.loop-item.yielded) ∙ ended.0 ∙ c.into_vec-item-items.ensures) c.loop-item.invariant
