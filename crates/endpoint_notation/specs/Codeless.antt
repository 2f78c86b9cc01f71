-- Which responses may have no code.
use Rattle.std.specs.Prelude.{ℕ, Bool, true, false, Option, Some, None}
use Rattle.descriptors.specs.declared.desc.Desc.{Desc}
use Rattle.handler_shapes.specs.declared.shape.ApiEndpointResponse.{ApiEndpointResponse}
use Rattle.handler_shapes.specs.declared.shape.ContentShape.{ContentShape}
use Rattle.handler_shapes.specs.declared.shape.ContentShape.TheVariants.{Json, Empty, Freeform}

-- whether there is a code, or content of any kind without named headers
abbrev pub has_code_or_bytes : Option ℕ → ContentShape → Option Desc → Bool
has_code_or_bytes (Some code) content headers = true
has_code_or_bytes None Freeform None = true
has_code_or_bytes None Freeform (Some desc) = false
has_code_or_bytes None Empty headers = false
has_code_or_bytes None (Json desc name) headers = false

-- the same of a response
abbrev pub is_codeless_right : ApiEndpointResponse → Bool
is_codeless_right response = has_code_or_bytes response.success response.content response.headers
