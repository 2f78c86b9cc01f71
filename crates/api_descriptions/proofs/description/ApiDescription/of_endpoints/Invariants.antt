use Rattle.std.proofs.Common.{◌≡◌, []}
use Rattle.api_endpoints.specs.Endpoints.{declarations_of}
use Rattle.api_registration.specs.Accepted.{AreAccepted}
use Rattle.api_descriptions.specs.Ready.{IsReady}
use Rattle.api_descriptions.proofs.description.ApiDescription.of_endpoints.Given as goal

-- those so far are registered, each was accepted, and the tags are those given
abbrev pub invariant-loop-endpoint : goal.invariant-loop-endpoint
invariant-loop-endpoint g l = record {
  ready : IsReady (λ e. goal.RouteHandler-dyn g (e.handler.vtable, e.handler.value)) l.api;
  tags : l.api.tags ≡ l.fn.tags;
  registered : l.api.endpoints.items ≡ l.yielded;
  accepted : AreAccepted l.fn.tags []
      (declarations_of (λ e. goal.RouteHandler-dyn g (e.handler.vtable, e.handler.value)) l.yielded);
}
