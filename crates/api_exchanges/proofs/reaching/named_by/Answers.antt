use Rattle.std.proofs.Common.{ap, ◌∙◌}
use Rattle.request_parts.specs.Requests.{Request}
use Rattle.endpoint_answers.specs.Exchanges.{named_by}
use Rattle.api_exchanges.proofs.reaching.named_by.Goals as goal

pub endpoint_at-requires : goal.endpoint_at-requires
endpoint_at-requires g c = c.requires

pub returns-in-Ok : goal.returns-in-Ok
returns-in-Ok g c =
    rw c.method-method.ensures at c.in-Ok.ensures.found
    ∙ ap (λ (request : Request). named_by
    (λ e. goal.RouteHandler-dyn g (e.handler.vtable, e.handler.value)) c.args.endpoints.now request) c.request.view_is

pub returns-in-Err : goal.returns-in-Err
returns-in-Err g c =
    rw c.method-method.ensures at c.endpoint_for.ensures
    ∙ ap (λ (request : Request). named_by
    (λ e. goal.RouteHandler-dyn g (e.handler.vtable, e.handler.value)) c.args.endpoints.now request) c.request.view_is
