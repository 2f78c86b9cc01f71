-- With which codes an endpoint may answer (OpenAPI 3.0.3, Responses Object; RFC 9110, section 15).
use Rattle.std.specs.Prelude.{◌≡◌, ◌≤◌, ℕ, Some, None, IsSome}
use Rattle.api_declarations.specs.Values.{DeclarationValue}

-- the code of a success is that of an error, of the client or of the server
pub record HasErrorAsSuccess (e : DeclarationValue) (code : ℕ) : Type 0 where
  pub success : e.shape.response.success ≡ Some code
  pub least : 400 ≤ code
  pub greatest : code ≤ 599

-- a success has a code of its own, so that errors are listed, and they have no type
pub record LacksErrorType (e : DeclarationValue) : Type 0 where
  pub has_code : IsSome e.shape.response.success
  pub no_error : e.shape.error ≡ None
