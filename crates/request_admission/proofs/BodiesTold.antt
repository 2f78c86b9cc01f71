-- When a body holds, of which the form is asked last.
use Rattle.std.proofs.Common.{◌≡◌, ◌↔◌, Bool, false, None, is_some, IsTrue, codes, ap, inl, inr}
use Rattle.schema_values.specs.declared.json_value.Json.{Json}
use Rattle.request_words.specs.declared.request.WireRequest.{WireRequest}
use Rattle.openapi_values.specs.RequestBodies.{media_in, IsJsonBody, IsFormBody, BodyHolds}

pub form_told : (doc : Json) (request : WireRequest) (body : Json) → media_in (codes "application/octet-stream") body ≡ None → (json : Bool) → json ≡ false → (IsTrue json ↔ IsJsonBody doc request body)
    → (form : Bool) → (IsTrue form ↔ IsFormBody doc request body) → IsTrue form ↔ BodyHolds doc request body
form_told doc request body no_bytes json no_json json_told form told = (λ t. inr (inr (told.0 t)), from)
  where
    from : BodyHolds doc request body → IsTrue form
    from (inl bytes) = let none : is_some (media_in (codes "application/octet-stream") body) ≡ false = ap is_some no_bytes in absurd (cc (bytes, none))
    from (inr (inl holds)) = let is = json_told.1 holds in absurd (cc (is, no_json))
    from (inr (inr holds)) = told.1 holds
