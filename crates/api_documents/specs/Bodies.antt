-- The body that an operation takes (OpenAPI 3.0.3, Request Body Object and Media Type Object).
use Rattle.std.specs.Prelude.{ℕ, List, [], ◌∷◌, Option, None}
use Rattle.std.specs.Option.{option_or}
use Rattle.schema_values.specs.declared.json_value.Json.{Json, Text as Words}
use Rattle.schema_values.specs.declared.json_value.Member.{Member}
use Rattle.schema_values.specs.Member.{member}
use Rattle.openapi_values.specs.declared.media.MediaType.{MediaType}
use Rattle.openapi_values.specs.declared.media.RequestBody.{RequestBody}
use Rattle.descriptors.specs.declared.table.Definition.{Definition}
use Rattle.request_parts.specs.declared.content_type.ApiEndpointBodyContentType.{ApiEndpointBodyContentType}
use Rattle.handler_shapes.specs.declared.slot.Slot.{Slot}
use Rattle.endpoint_metadata.specs.Shown.{body_documented}

-- a schema under one media type
abbrev pub media : List ℕ → Json → List (List ℕ × MediaType)
media type schema = (type, record { schema = schema }) ∷ []

-- a member that is a text
abbrev pub text_member : List ℕ → List ℕ → Member
text_member name text = member name (Words text)

-- the body of an operation: that of its first slot of a body, and there is one at most
abbrev pub body_of : ApiEndpointBodyContentType → List Definition → List Slot → Option RequestBody
body_of kind table [] = None
body_of kind table (slot ∷ slots) = option_or (body_documented kind table slot) (body_of kind table slots)
