use Rattle.std.proofs.Common.{◌≡◌, take}
use Rattle.api_endpoints.specs.Endpoints.{declarations_of}
use Rattle.api_endpoints.proofs.declaring.declarations.Given as goal

-- the declarations so far are those of the first endpoints
abbrev pub invariant-loop-endpoint : goal.invariant-loop-endpoint
invariant-loop-endpoint g l =
    l.declarations.items
    ≡ declarations_of (λ e. goal.RouteHandler-dyn g (e.handler.vtable, e.handler.value))
    (take l.endpoint-index l.endpoints)
