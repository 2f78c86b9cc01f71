use Rattle.std.proofs.Common.{refl}
use Rattle.std.proofs.lemmas.Result.{err_from_is_err_and}
use Rattle.api_endpoints.specs.Endpoints.{declaration_of, declarations_of}
use Rattle.api_registration.proofs.CallerLemmas.{refused_may_not}
use Rattle.api_descriptions.proofs.Registered.{ready_push}
use Rattle.api_descriptions.proofs.description.ApiDescription.register.Goals as goal

pub returns-in-Some-clause-complete : goal.returns-in-Some-clause-complete
returns-in-Some-clause-complete g c = λ may.
    absurd
    (refused_may_not c.args.self.now.tags
    (declarations_of (λ e. goal.RouteHandler-dyn g (e.handler.vtable, e.handler.value)) c.args.self.now.endpoints.items)
    (declaration_of (λ e. goal.RouteHandler-dyn g (e.handler.vtable, e.handler.value)) c.args.endpoint)
    c.in-Some.error (rw c.in-Some.is at c.in_ok-error.ensures.first) may)

pub returns-in_ok-push-in-None-clause-ready : goal.returns-in_ok-push-in-None-clause-ready
returns-in_ok-push-in-None-clause-ready g c = λ ready.
    ready_push (λ e. goal.RouteHandler-dyn g (e.handler.vtable, e.handler.value)) c.args.self.now c.push.new.self
    ready c.in_ok-push-in-None.ensures.indexed c.args.self.now.tags c.args.endpoint
    c.in_ok-push-in-None.ensures.ok (rw c.in-None.is at c.in_ok-error.ensures.first)
    (rw c.in-None.is at c.in_ok-error.ensures.lengths)

pub returns-in_err-error-clause-index : goal.returns-in_err-error-clause-index
returns-in_err-error-clause-index g c =
    let p = err_from_is_err_and c.from_residual.result c.from_residual.ensures.1 in
    rw p.1 (record { templates = λ key. refl; shapes = λ key. refl; definitions = λ key. refl })

pub returns-in-Some-clause-index : goal.returns-in-Some-clause-index
returns-in-Some-clause-index g c = record { templates = λ key. refl; shapes = λ key. refl; definitions = λ key. refl }

pub returns-in_err-push-in-None-clause-index : goal.returns-in_err-push-in-None-clause-index
returns-in_err-push-in-None-clause-index g c =
    let p = err_from_is_err_and c.from_residual-in_err-push-in-None.result c.from_residual-in_err-push-in-None.ensures.1 in
    rw p.1 c.in_err-push-in-None.ensures.index
