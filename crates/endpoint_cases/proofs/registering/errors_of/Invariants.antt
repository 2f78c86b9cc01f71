use Rattle.api_descriptions.specs.Ready.{IsReady}
use Rattle.endpoint_cases.proofs.registering.errors_of.Given as goal

-- those so far were registered
abbrev pub invariant-loop-endpoint : goal.invariant-loop-endpoint
invariant-loop-endpoint g l = IsReady (λ e. goal.RouteHandler-dyn g (e.handler.vtable, e.handler.value)) l.api
