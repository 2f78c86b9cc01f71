-- What a handler is told of a request besides its arguments.
use Rattle.std.specs.Prelude.{ℕ, min, List, Option, Some, None}
use Rattle.std.specs.NonZero.{non_zero_u32_get}
use Rattle.std.specs.declared.num.NonZeroU32.{NonZeroU32}
use Rattle.request_parts.specs.Requests.{Variables}
use Rattle.request_parts.specs.declared.config.ServerConfig.{ServerConfig}
use Rattle.request_parts.specs.declared.content_type.ApiEndpointBodyContentType.{ApiEndpointBodyContentType}

-- an endpoint: the name of its operation, the variables of the path, and the kind and the limit of its body
pub record Metadata : Type 0 where
  pub operation_id : List ℕ
  pub variables : Variables
  pub body_content_type : ApiEndpointBodyContentType
  pub request_body_max_bytes : Option ℕ

-- how many items a page has at most, where a client gives a limit or none
abbrev pub item_count : ServerConfig → Option NonZeroU32 → ℕ
item_count config None = non_zero_u32_get config.page_default_nitems
item_count config (Some limit) = min (non_zero_u32_get limit) (non_zero_u32_get config.page_max_nitems)
