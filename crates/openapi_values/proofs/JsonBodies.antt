-- Which requests of a media type of JSON an operation admits that takes a body under `application/json`, and none of bytes,
-- has no parameters and does not answer in pages.
use Rattle.std.proofs.Common.{◌≡◌, ◌↔◌, ℕ, false, List, [], Option, Some, None, IfSome, is_some, codes, sym, ap, subst, inl, inr}
use Rattle.std.specs.List.{list_all}
use Rattle.std.specs.Prelude.{IsSomeAnd}
use Rattle.schema_values.specs.declared.json_value.Json.{Json}
use Rattle.request_words.specs.declared.request.WireRequest.{WireRequest}
use Rattle.request_words.specs.MediaTypes.{HasJsonType}
use Rattle.request_words.proofs.CallerLemmas.{json_or_form}
use Rattle.openapi_values.specs.declared.document.OpenApi.{OpenApi}
use Rattle.openapi_values.specs.declared.media.MediaType.{MediaType}
use Rattle.openapi_values.specs.declared.media.RequestBody.{RequestBody}
use Rattle.openapi_values.specs.declared.operation.Operation.{Operation}
use Rattle.openapi_values.specs.Admits.{Admits}
use Rattle.openapi_values.specs.Document.{open_api_json}
use Rattle.openapi_values.specs.Find.{value_at, operation_in}
use Rattle.openapi_values.specs.Listed.{listed_holds, listed_pages_hold, ListedBodyHolds}
use Rattle.openapi_values.specs.Options.{is_none_or}
use Rattle.openapi_values.specs.RequestBodies.{IsJsonOf, IsFormOf}
use Rattle.openapi_values.proofs.ListedOperations.{operations-admitted}

no_form : (doc : Json) (request : WireRequest) (o : Option MediaType) → HasJsonType request.headers → IsSomeAnd o (λ media. IsFormOf doc request media.schema) → ⊥
no_form doc request None typed form = form
no_form doc request (Some media) typed form = json_or_form request.headers typed form.has_type

json_of_body : (doc : Json) (request : WireRequest) (body : RequestBody) (media : MediaType) → HasJsonType request.headers → value_at (codes "application/json") body.content ≡ Some media → value_at (codes "application/octet-stream") body.content ≡ None
    → ListedBodyHolds doc request body → IsJsonOf doc request media.schema
json_of_body doc request body media typed under no_bytes (inl bytes) = let none : is_some (value_at (codes "application/octet-stream") body.content) ≡ false = ap is_some no_bytes in absurd (cc (bytes, none))
json_of_body doc request body media typed under no_bytes (inr (inl json)) = subst (λ (o : Option MediaType). IsSomeAnd o (λ m. IsJsonOf doc request m.schema)) under json
json_of_body doc request body media typed under no_bytes (inr (inr form)) = absurd (no_form doc request (value_at (codes "application/x-www-form-urlencoded") body.content) typed form)

pub json_bodies : (document : OpenApi) (path method : List ℕ) (operation : Operation) (body : RequestBody) (media : MediaType) (request : WireRequest)
    → operation_in document path method ≡ Some operation → operation.pagination ≡ None → operation.parameters ≡ [] → operation.request_body ≡ Some body
    → value_at (codes "application/json") body.content ≡ Some media → value_at (codes "application/octet-stream") body.content ≡ None → HasJsonType request.headers
    → Admits (open_api_json document) path method request ↔ IsJsonOf (open_api_json document) request media.schema
json_bodies document path method operation body media request found not_paged no_parameter has_body under no_bytes typed =
    let doc = open_api_json document in
    let admitted = operations-admitted document path method operation request found in (
      λ a. json_of_body doc request body media typed under no_bytes (subst (λ (o : Option RequestBody). IfSome o (ListedBodyHolds doc request)) has_body (admitted.0 a).body),
      λ json. admitted.1 (record {
        parameters = ap (list_all (listed_holds doc request (is_some operation.pagination))) no_parameter;
        pages = ap (λ o. is_none_or o (listed_pages_hold request operation.parameters)) not_paged;
        body = subst (λ (o : Option RequestBody). IfSome o (ListedBodyHolds doc request)) (sym has_body)
            (inr (inl (subst (λ (o : Option MediaType). IsSomeAnd o (λ m. IsJsonOf doc request m.schema)) (sym under) json)));
      }),
    )
