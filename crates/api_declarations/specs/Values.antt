-- What is said of an endpoint.
use Rattle.std.specs.Prelude.{ℕ, Bool, List, Option}
use Rattle.api_versions.specs.Ranges.{VersionRange}
use Rattle.handler_shapes.specs.declared.shape.HandlerShape.{HandlerShape}
use Rattle.request_parts.specs.declared.content_type.ApiEndpointBodyContentType.{ApiEndpointBodyContentType}

-- What is said of an endpoint, without what its handler does: the method by its bytes, texts by their characters,
-- the versions by their bounds.
pub record DeclarationValue : Type 0 where
  pub operation_id : List ℕ
  pub method : List ℕ
  pub path : List ℕ
  pub body_content_type : ApiEndpointBodyContentType
  pub versions : VersionRange
  pub visible : Bool
  pub deprecated : Bool
  pub tags : List (List ℕ)
  pub summary : Option (List ℕ)
  pub description : Option (List ℕ)
  pub body_limit : Option ℕ
  pub shape : HandlerShape
