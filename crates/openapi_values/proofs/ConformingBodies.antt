-- Bodies that conform under what is listed for their media types.
use Rattle.std.proofs.Common.{◌≡◌, ℕ, Bool, List, [], ◌∷◌, Option, Some, is_some, codes, sym, ap, subst, inl, inr}
use Rattle.std.specs.Prelude.{IsSomeAnd}
use Rattle.schema_values.specs.declared.json_value.Json.{Json}
use Rattle.openapi_values.specs.declared.media.MediaType.{MediaType}
use Rattle.openapi_values.specs.Conforms.{SentResponse, IsJsonResponse}
use Rattle.openapi_values.specs.Find.{value_at}
use Rattle.openapi_values.specs.ListedConforms.{ListedBodyConforms}

module _ (doc : Json) (response : SentResponse) (set : Bool) (media : MediaType) where
  -- any under `*/*`
  pub any_body : (content : List (List ℕ × MediaType)) → value_at (codes "*/*") content ≡ Some media → ListedBodyConforms doc response set content
  any_body [] under = absurd (cc under)
  any_body (pair ∷ pairs) under = inl (ap is_some under)

  -- under `application/json` a printing of JSON that the schema admits
  pub json_body : (content : List (List ℕ × MediaType)) → value_at (codes "application/json") content ≡ Some media → IsJsonResponse doc response set media.schema → ListedBodyConforms doc response set content
  json_body [] under json = absurd (cc under)
  json_body (pair ∷ pairs) under json = inr (subst (λ (o : Option MediaType). IsSomeAnd o (λ m. IsJsonResponse doc response set m.schema)) (sym under) json)
