-- Which responses conform to an operation of a document's types (OpenAPI 3.0.3, Responses Object and Response Object).
use Rattle.std.specs.Prelude.{◌≡◌, ◌⊎◌, ℕ, Bool, List, [], ◌∷◌, Option, Some, None, IsSome, IsSomeAnd, IsTrue, option_and_then, codes}
use Rattle.std.specs.List.{list_all}
use Rattle.schema_values.specs.declared.json_value.Json.{Json}
use Rattle.request_words.specs.declared.request.HeaderLine.{HeaderLine}
use Rattle.request_words.specs.Prefixes.{after}
use Rattle.openapi_values.specs.declared.document.OpenApi.{OpenApi}
use Rattle.openapi_values.specs.declared.media.MediaType.{MediaType}
use Rattle.openapi_values.specs.declared.media.ResponseObject.{ResponseObject}
use Rattle.openapi_values.specs.declared.operation.Operation.{Operation}
use Rattle.openapi_values.specs.declared.parameter.HeaderObject.{HeaderObject}
use Rattle.openapi_values.specs.Conforms.{SentResponse, by_status, line_stands, IsJsonResponse}
use Rattle.openapi_values.specs.Document.{open_api_json}
use Rattle.openapi_values.specs.Find.{value_at, response_in}

-- the first response of a status, else of its class, else of `default`
abbrev pub response_of : List (List ℕ × ResponseObject) → ℕ → Option ResponseObject
response_of responses = by_status (λ name. value_at name responses)

-- the name behind `#/components/responses/` in a response that is a reference (OpenAPI 3.0.3, Reference Object)
abbrev pub name_referred : ResponseObject → Option (List ℕ)
name_referred response = option_and_then (after (codes "#/components/responses/")) response.reference

-- a response in full stands for itself; a reference stands for what the response that it names stands for, whatever else it has
pub data ListedStandsFor (document : OpenApi) : ResponseObject → ResponseObject → Type 0 where
  in_full : {response : ResponseObject} → response.reference ≡ None → ListedStandsFor document response response
  by_reference : {reference response : ResponseObject} (name : List ℕ) (named : ResponseObject) → name_referred reference ≡ Some name → response_in document name ≡ Some named → ListedStandsFor document named response
      → ListedStandsFor document reference response

-- a line of a listed header that is required stands
abbrev pub listed_header_stands : List HeaderLine → List ℕ × HeaderObject → Bool
listed_header_stands lines header = line_stands lines header.1.required header.0

-- where no content is listed the body is empty; under `*/*` any body conforms, and under `application/json` JSON of the
-- schema there (OpenAPI 3.0.3, Media Type Object)
abbrev pub ListedBodyConforms : Json → SentResponse → Bool → List (List ℕ × MediaType) → Type 0
ListedBodyConforms doc response set [] = response.body ≡ []
ListedBodyConforms doc response set (pair ∷ pairs) =
    IsSome (value_at (codes "*/*") (pair ∷ pairs)) ⊎ IsSomeAnd (value_at (codes "application/json") (pair ∷ pairs)) (λ media. IsJsonResponse doc response set media.schema)

-- each required header stands, and the body is as listed
pub record ListedResponseConforms (doc : Json) (response : SentResponse) (set : Bool) (listed : ResponseObject) : Type 0 where
  pub headers : IsTrue (list_all (listed_header_stands response.headers) listed.headers)
  pub body : ListedBodyConforms doc response set listed.content

-- a response conforms to what the response that is listed for its status stands for; `set` says whether the reply gave a
-- `content-type` of its own
pub record ListedConforms (document : OpenApi) (operation : Operation) (response : SentResponse) (set : Bool) : Type 0 where
  pub listed : ResponseObject
  pub is_listed : response_of operation.responses response.status ≡ Some listed
  pub meant : ResponseObject
  pub stands_for : ListedStandsFor document listed meant
  pub conforms : ListedResponseConforms (open_api_json document) response set meant
