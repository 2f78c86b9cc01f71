use Rattle.std.proofs.Common.{◌∙◌, [], ◌∷◌, ◌++◌, List, ap, length, subst, sym}
use Rattle.std.specs.List.{AllZip}
use Rattle.std.proofs.lemmas.Iterator.Adapters.{YieldsList-from_vec}
use Rattle.std.proofs.lemmas.Iterator.Consumers.{YieldsList-end, YieldsList-turn}
use Rattle.std.proofs.lemmas.List.{map-id}
use Rattle.std.proofs.lemmas.Result.{err_from_is_err_and}
use Rattle.schema_values.specs.declared.json_value.Json.{Json}
use Rattle.http_bodies.specs.declared.frame.Frame.{Frame}
use Rattle.request_lines.specs.Said.{IsFrameOf}
use Rattle.request_lines.proofs.ListLemmas.{zip_fails, zip_push}
use Rattle.request_lines.proofs.request_frames.frames_of.Goals as goal

pub returns-in_err-frame_of-clause-bad : goal.returns-in_err-frame_of-clause-bad
returns-in_err-frame_of-clause-bad c bad frames zip =
    let all = c.into_vec-item-items.result.items in
    let it = c.into_iter-item-iterator in
    let so_far = c.loop-item.yielded in
    let road = YieldsList-from_vec {s = it.result} all it.ensures.into_iter_gives.0
    (it.result.rest.ok.0 ∙ ap length it.ensures.into_iter_gives.0) in
    let turn =
    YieldsList-turn road so_far c.loop-item.item-iterator c.loop-item.yielded_by c.next.result c.next.new.self
    c.in-Some.item c.in-Some.is c.next.ensures.steps in
    let made = err_from_is_err_and c.from_residual.result c.from_residual.ensures.1 in
    zip_fails IsFrameOf all frames (length so_far) c.in-Some.item turn.0 turn.1
    (c.in_err-frame_of.ensures.bad (cc (made.1, made.2, bad)))
    (subst (λ (items : List Json). AllZip IsFrameOf items frames) (sym c.into_vec-item-items.ensures) zip)

pub loop-item-preserved : goal.loop-item-preserved
loop-item-preserved c =
    let so_far = c.loop-item.yielded in
    subst (λ (frames : List Frame). AllZip IsFrameOf (so_far ++ c.in-Some.item ∷ []) frames)
    (sym c.in_ok-push.ensures.ok)
    (zip_push IsFrameOf so_far c.loop-item.frames c.in-Some.item _ c.loop-item.invariant c.in_ok-frame_of.ensures.frame)

pub returns-clause-frames : goal.returns-clause-frames
returns-clause-frames c =
    let all = c.into_vec-item-items.result.items in
    let it = c.into_iter-item-iterator in
    let road = YieldsList-from_vec {s = it.result} all it.ensures.into_iter_gives.0
    (it.result.rest.ok.0 ∙ ap length it.ensures.into_iter_gives.0) in
    let ended = YieldsList-end road c.loop-item.yielded c.loop-item.item-iterator c.loop-item.yielded_by c.next.result
    c.next.new.self c.in-None.is c.next.ensures.steps in
    subst (λ (items : List Json). AllZip IsFrameOf items c.loop-item.frames)
    (sym (map-id c.loop-item.yielded) ∙ ended.0 ∙ c.into_vec-item-items.ensures) c.loop-item.invariant
