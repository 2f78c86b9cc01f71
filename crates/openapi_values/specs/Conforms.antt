-- Which responses conform to a document (OpenAPI 3.0.3, Responses Object and Response Object).
use Rattle.std.specs.Prelude.{◌≡◌, ◌⊎◌, ℕ, Bool, ◌&&◌, ◌||◌, not, nat_le, nat_lt, List, [], Option, Some, None, IsSome, IsSomeAnd, IsTrue, is_some, option_and_then, if◌then◌else◌, codes}
use Rattle.std.specs.Fmt.{decimal}
use Rattle.std.specs.List.{list_all}
use Rattle.std.specs.Option.{option_or}
use Rattle.std.specs.Str.{encode_utf8_all}
use Rattle.schema_values.specs.declared.json_value.Json.{Json, out-Json}
use Rattle.schema_values.specs.declared.json_value.Member.{Member}
use Rattle.schema_values.specs.Get.{get_of}
use Rattle.schema_values.specs.Pretty.{pretty_of}
use Rattle.schema_values.specs.Print.{compact_of}
use Rattle.request_words.specs.declared.request.HeaderLine.{HeaderLine}
use Rattle.request_words.specs.HeaderLines.{first_line}
use Rattle.request_words.specs.Prefixes.{after}
use Rattle.openapi_values.specs.Admits.{operation_at}
use Rattle.openapi_values.specs.JsonAdmits.{JsonAdmits}
use Rattle.openapi_values.specs.Levels.{as_object}
use Rattle.openapi_values.specs.Lookup.{member_in}
use Rattle.openapi_values.specs.Options.{is_some_and, is_none_or}
use Rattle.openapi_values.specs.RequestParameters.{text_of, is_true_at}

-- a response as it goes out
pub record SentResponse : Type 0 where
  pub status : ℕ
  pub headers : List HeaderLine
  pub body : List ℕ

-- ---- the response that an operation lists for a status

-- the name for the statuses of a class of errors (OpenAPI 3.0.3, Patterned Fields of the Responses Object)
abbrev pub class_of : ℕ → Option (List ℕ)
class_of status =
    if nat_le 400 status && nat_lt status 500 then Some (codes "4XX") else
    (if nat_le 500 status && nat_lt status 600 then Some (codes "5XX") else None)

-- what is at a status, else at its class, else at `default`
abbrev pub by_status : {X : Type 0} → (List ℕ → Option X) → ℕ → Option X
by_status at status = option_or (at (decimal status)) (option_or (option_and_then at (class_of status)) (at (codes "default")))

abbrev pub response_listed : Json → ℕ → Option Json
response_listed operation = by_status (member_in (get_of (codes "responses") operation))

-- the response of a name in `components.responses` (OpenAPI 3.0.3, Components Object)
abbrev pub response_named : Json → List ℕ → Option Json
response_named doc name = member_in (member_in (get_of (codes "components") doc) (codes "responses")) name

-- the name behind `#/components/responses/` in a response that is a reference (OpenAPI 3.0.3, Reference Object)
abbrev pub referred_response : Json → Option (List ℕ)
referred_response response = option_and_then (after (codes "#/components/responses/")) (text_of (codes "$ref") response)

-- a response stands for itself, or, where it is a reference, for what the response that it names stands for
pub data StandsFor (doc : Json) : Json → Json → Type 0 where
  itself : {response : Json} → get_of (codes "$ref") response ≡ None → StandsFor doc response response
  by_reference : {reference response : Json} (name : List ℕ) (named : Json) → referred_response reference ≡ Some name → response_named doc name ≡ Some named → StandsFor doc named response → StandsFor doc reference response

-- ---- what a response object asks

-- a line of a header that is required stands; its name is compared without case (OpenAPI 3.0.3, Header Object)
abbrev pub line_stands : List HeaderLine → Bool → List ℕ → Bool
line_stands lines required name = not required || is_some (first_line (encode_utf8_all name) lines)

abbrev pub header_stands : List HeaderLine → Member → Bool
header_stands lines header = line_stands lines (is_true_at (codes "required") header.value) header.name

abbrev pub headers_stand : List HeaderLine → Option Json → Bool
headers_stand lines headers = is_none_or headers (λ listed. is_some_and (as_object (out-Json listed)) (list_all (header_stands lines)))

-- the bytes are a printing of a value, without white space or in lines
abbrev pub Prints : List ℕ → Json → Type 0
Prints bytes json = (bytes ≡ encode_utf8_all (compact_of json)) ⊎ (bytes ≡ encode_utf8_all (pretty_of json))

-- the first `content-type` line has the type of JSON (RFC 9110, section 8.3)
abbrev pub IsTypedJson : List HeaderLine → Type 0
IsTypedJson lines = first_line (codes "content-type") lines ≡ Some (codes "application/json")

-- the body is a printing of JSON that a schema admits; the `content-type` says so, unless one was `set` for the response
pub record IsJsonResponse (doc : Json) (response : SentResponse) (set : Bool) (schema : Json) : Type 0 where
  pub json : Json
  pub prints : Prints response.body json
  pub admitted : JsonAdmits doc schema json
  pub typed : IsTrue set ⊎ IsTypedJson response.headers

-- without `content` the body is empty; under `*/*` any body conforms, and under `application/json` JSON of the schema there
-- (OpenAPI 3.0.3, Media Type Object)
abbrev pub BodyConforms : Json → SentResponse → Bool → Option Json → Type 0
BodyConforms doc response set None = response.body ≡ []
BodyConforms doc response set (Some content) =
    IsSome (get_of (codes "*/*") content) ⊎ IsSomeAnd (member_in (get_of (codes "application/json") content) (codes "schema")) (IsJsonResponse doc response set)

-- each required header stands, and the body is as the response object says
pub record ResponseConforms (doc : Json) (response : SentResponse) (set : Bool) (listed : Json) : Type 0 where
  pub headers : IsTrue (headers_stand response.headers (get_of (codes "headers") listed))
  pub body : BodyConforms doc response set (get_of (codes "content") listed)

-- a response of an operation conforms to the response object that is listed for its status; `set` says whether the reply
-- gave a `content-type` of its own
pub record Conforms (doc : Json) (path method : List ℕ) (response : SentResponse) (set : Bool) : Type 0 where
  pub operation : Json
  pub stands : operation_at doc path method ≡ Some operation
  pub listed : Json
  pub is_listed : response_listed operation response.status ≡ Some listed
  pub meant : Json
  pub stands_for : StandsFor doc listed meant
  pub conforms : ResponseConforms doc response set meant
