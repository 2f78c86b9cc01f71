use Rattle.std.proofs.Common.{◌≡◌, sym, subst}
use Rattle.std.proofs.lemmas.Result.{IfOk-weaker}
use Rattle.schema_values.specs.Sound.{IsSound}
use Rattle.semver.specs.Identifiers.{parts_of}
use Rattle.api_endpoints.specs.Endpoints.{declarations_of}
use Rattle.api_descriptions.specs.Written.{document_at}
use Rattle.api_descriptions.proofs.Registered.{registered_pass}
use Rattle.api_descriptions.proofs.definition.OpenApiDefinition.json.Goals as goal

pub document-requires : goal.document-requires
document-requires g c =
    rw (c.deref-2.ensures.value, c.in_ok-declarations.ensures, c.deref.ensures.value)
    (registered_pass (λ e. goal.RouteHandler-dyn g (e.handler.vtable, e.handler.value))
    c.args.self.now.api.now.endpoints.items c.requires.ready.registered)

pub returns-clause-written : goal.returns-clause-written
returns-clause-written g c =
    rw (c.in_ok-document.ensures, c.deref-2.ensures.value, c.in_ok-declarations.ensures, c.deref.ensures.value)
    at c.to_json.ensures

pub returns-clause-sound : goal.returns-clause-sound
returns-clause-sound g c =
    let api = c.args.self.now.api.now in
    let document = document_at (λ e. goal.RouteHandler-dyn g (e.handler.vtable, e.handler.value)) api.tags
    api.endpoints.items c.args.self.now.info (parts_of c.args.self.now.version) in
    let sound : IsSound document = c.accepted_are_listed.ensures.sound
    (declarations_of (λ e. goal.RouteHandler-dyn g (e.handler.vtable, e.handler.value)) api.endpoints.items)
    (parts_of c.args.self.now.version) api.tags.tags c.args.self.now.info c.requires.ready.registered in
    IfOk-weaker c.to_json.result (λ json. json ≡ document) IsSound (λ json is. subst IsSound (sym is) sound)
    (returns-clause-written g c)
