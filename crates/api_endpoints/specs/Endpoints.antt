-- Endpoints, each with the meaning of the handler in its box.
use Rattle.std.specs.Prelude.{List, map}
use Rattle.handler_shapes.specs.declared.shape.HandlerShape.{HandlerShape}
use Rattle.api_versions.specs.Shown.{range_of}
use Rattle.api_respond.specs.Encodes.{Turns}
use Rattle.api_respond.specs.declared.handler.RouteHandler.{Ghosts}
use Rattle.api_declarations.specs.Values.{DeclarationValue}
use Rattle.api_endpoints.specs.declared.endpoint.ApiEndpoint.{ApiEndpoint}

-- the meanings of the handlers in the boxes of endpoints
abbrev pub Meanings : (X : Type 0) → (X → Type 0) → Type 1
Meanings X F = (e : ApiEndpoint X F) → Ghosts (F e.handler.vtable)

-- the meanings of boxed handlers, of the meanings by what stands in a box beside the handler
abbrev pub boxed : {X : Type 0} {F : X → Type 0} → ((x : X) → Ghosts (F x)) → Meanings X F
boxed m e = m e.handler.vtable

-- the shape of an endpoint's handler
abbrev pub shape_at : {X : Type 0} {F : X → Type 0} → Meanings X F → ApiEndpoint X F → HandlerShape
shape_at m e = (m e).shape_of e.handler.value

-- what an endpoint's handler makes of errors
abbrev pub turns_at : {X : Type 0} {F : X → Type 0} → Meanings X F → ApiEndpoint X F → Turns
turns_at m e = (m e).turns e.handler.value

-- what is said of an endpoint whose handler has this shape
abbrev pub declaration_by : {X : Type 0} {F : X → Type 0} → ApiEndpoint X F → HandlerShape → DeclarationValue
declaration_by e shape = record {
  operation_id = e.operation_id;
  method = e.method;
  path = e.path;
  body_content_type = e.body_content_type;
  versions = range_of e.versions;
  visible = e.visible;
  deprecated = e.deprecated;
  tags = e.tags;
  summary = e.summary;
  description = e.description;
  body_limit = e.request_body_max_bytes;
  shape = shape;
}

-- what is said of an endpoint
abbrev pub declaration_of : {X : Type 0} {F : X → Type 0} → Meanings X F → ApiEndpoint X F → DeclarationValue
declaration_of m e = declaration_by e (shape_at m e)

-- what is said of endpoints, in order
abbrev pub declarations_of :
    {X : Type 0} {F : X → Type 0} → Meanings X F → List (ApiEndpoint X F) → List DeclarationValue
declarations_of m = map (declaration_of m)
