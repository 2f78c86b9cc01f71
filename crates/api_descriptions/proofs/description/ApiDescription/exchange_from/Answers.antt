use Rattle.std.proofs.Common.{sym, subst}
use Rattle.endpoint_answers.specs.Exchanges.{AreServable}
use Rattle.api_descriptions.proofs.Registered.{registered_serve}
use Rattle.api_descriptions.proofs.description.ApiDescription.exchange_from.Goals as goal

pub exchange_from-requires-clause-servable : goal.exchange_from-requires-clause-servable
exchange_from-requires-clause-servable g c =
    subst (AreServable (λ e. goal.RouteHandler-dyn g (e.handler.vtable, e.handler.value)))
    (sym c.as_slice-endpoints.ensures.value)
    (registered_serve (λ e. goal.RouteHandler-dyn g (e.handler.vtable, e.handler.value)) c.args.self.now.endpoints.items
    c.requires.ready.registered)

pub returns : goal.returns
returns g c = rw c.as_slice-endpoints.ensures.value at c.exchange_from.ensures
