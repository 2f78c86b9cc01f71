use Rattle.std.proofs.Common.{◌≡◌, [], ◌∷◌, ◌++◌, length, map-id, ap, sym, ◌∙◌, subst, Err}
use Rattle.std.proofs.lemmas.Result.{err_from_is_err_and}
use Rattle.std.proofs.lemmas.Iterator.Adapters.{YieldsList-from_vec}
use Rattle.std.proofs.lemmas.Iterator.Consumers.{YieldsList-so_far, YieldsList-turn, YieldsList-end}
use Rattle.api_endpoints.specs.Endpoints.{declarations_of}
use Rattle.api_registration.specs.Accepted.{AreAccepted}
use Rattle.api_descriptions.specs.declared.register_error.RegisterError.TheVariants.{Refused}
use Rattle.api_descriptions.proofs.Fronts.{accepted_at, behind_front, refused_at}
use Rattle.api_descriptions.proofs.Registered.{all_or_memory}
use Rattle.api_descriptions.proofs.description.ApiDescription.of_endpoints.Goals as goal

pub returns-in_err-register-clause-refused : goal.returns-in_err-register-clause-refused
returns-in_err-register-clause-refused g c error is =
    let p = err_from_is_err_and c.from_residual.result c.from_residual.ensures.1 in
    let same : c.in_err-register.field-0.0 ≡ Refused error = cc (p.1, p.2) in
    let all = c.args.endpoints.items in
    let so_far = c.loop-endpoint.yielded in
    let it = c.into_iter-endpoint-iterator in
    let road = YieldsList-from_vec all it.ensures.into_iter_gives.0
    (it.result.rest.ok.0 ∙ ap length it.ensures.into_iter_gives.0) in
    let front = sym (map-id so_far) ∙ YieldsList-so_far road so_far c.loop-endpoint.endpoint-iterator
    c.loop-endpoint.yielded_by in
    let turn = YieldsList-turn road so_far c.loop-endpoint.endpoint-iterator c.loop-endpoint.yielded_by c.next.result
    c.next.new.self c.in-Some.endpoint c.in-Some.is c.next.ensures.steps in
    refused_at (λ e. goal.RouteHandler-dyn g (e.handler.vtable, e.handler.value)) c.args.tags c.loop-endpoint.api.tags
    c.loop-endpoint.invariant.tags so_far c.loop-endpoint.api.endpoints.items c.loop-endpoint.invariant.registered
    c.in-Some.endpoint c.loop-endpoint.invariant.accepted all _ error
    (behind_front all so_far c.in-Some.endpoint front turn.0 turn.1)
    (c.in_err-register.ensures.refused error (ap Err same))

pub returns-in_err-register-clause-complete : goal.returns-in_err-register-clause-complete
returns-in_err-register-clause-complete g c =
    all_or_memory c.args.tags
    (declarations_of (λ e. goal.RouteHandler-dyn g (e.handler.vtable, e.handler.value)) c.args.endpoints.items) _
    (returns-in_err-register-clause-refused g c)

pub loop-endpoint-preserved : goal.loop-endpoint-preserved
loop-endpoint-preserved g c = record {
  ready = c.in_ok-register.ensures.ready c.loop-endpoint.invariant.ready;
  tags = c.in_ok-register.ensures.tags ∙ c.loop-endpoint.invariant.tags;
  registered = c.in_ok-register.ensures.ok
      ∙ ap (λ es. es ++ c.in-Some.endpoint ∷ []) c.loop-endpoint.invariant.registered;
  accepted =
      accepted_at (λ e. goal.RouteHandler-dyn g (e.handler.vtable, e.handler.value)) c.args.tags
      c.loop-endpoint.api.tags c.loop-endpoint.invariant.tags c.loop-endpoint.yielded
      c.loop-endpoint.api.endpoints.items c.loop-endpoint.invariant.registered c.in-Some.endpoint
      c.loop-endpoint.invariant.accepted c.in_ok-register.ensures.may;
}

pub returns-clause-accepted : goal.returns-clause-accepted
returns-clause-accepted g c =
    let it = c.into_iter-endpoint-iterator in
    let road = YieldsList-from_vec c.args.endpoints.items it.ensures.into_iter_gives.0
    (it.result.rest.ok.0 ∙ ap length it.ensures.into_iter_gives.0) in
    let ended = YieldsList-end road c.loop-endpoint.yielded c.loop-endpoint.endpoint-iterator
    c.loop-endpoint.yielded_by c.next.result c.next.new.self c.in-None.is c.next.ensures.steps in
    subst (λ es. AreAccepted c.args.tags []
    (declarations_of (λ e. goal.RouteHandler-dyn g (e.handler.vtable, e.handler.value)) es))
    (sym (map-id c.loop-endpoint.yielded) ∙ ended.0) c.loop-endpoint.invariant.accepted
