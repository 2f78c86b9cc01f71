-- Which bodies of requests hold (OpenAPI 3.0.3, Request Body Object and Media Type Object).
use Rattle.std.specs.Prelude.{◌⊎◌, ℕ, List, Option, IsSome, IsSomeAnd, codes}
use Rattle.schema_values.specs.declared.json_value.Json.{Json}
use Rattle.schema_values.specs.Get.{get_of}
use Rattle.schema_values.specs.Reading.{Reads}
use Rattle.request_words.specs.declared.request.WireRequest.{WireRequest}
use Rattle.request_words.specs.MediaTypes.{HasJsonType, HasFormType}
use Rattle.request_words.specs.Pairs.{form_pairs}
use Rattle.openapi_values.specs.FormAdmits.{FormAdmits}
use Rattle.openapi_values.specs.JsonAdmits.{JsonAdmits}
use Rattle.openapi_values.specs.Lookup.{member_in}

-- ---- what a schema asks of a body

-- as JSON: the request's media type is one of JSON, and its bytes are some JSON that the schema admits
pub record IsJsonOf (doc : Json) (request : WireRequest) (schema : Json) : Type 0 where
  pub has_type : HasJsonType request.headers
  pub json : Json
  pub reads : Reads request.body json
  pub admitted : JsonAdmits doc schema json

-- as a form: the request's media type is that of forms, and its bytes are pairs that the schema admits
pub record IsFormOf (doc : Json) (request : WireRequest) (schema : Json) : Type 0 where
  pub has_type : HasFormType request.headers
  pub admitted : FormAdmits doc schema (form_pairs request.body)

-- ---- a body, read from the document's JSON

-- what stands under a media type
abbrev pub media_in : List ℕ → Json → Option Json
media_in media body = member_in (get_of (codes "content") body) media

-- the schema under a media type
abbrev pub schema_under : List ℕ → Json → Option Json
schema_under media body = member_in (media_in media body) (codes "schema")

-- a body under `application/octet-stream` may have any bytes, whatever the request's media type
abbrev pub IsBytesBody : Json → Type 0
IsBytesBody body = IsSome (media_in (codes "application/octet-stream") body)

-- a body under `application/json` has a schema, and is JSON of it
abbrev pub IsJsonBody : Json → WireRequest → Json → Type 0
IsJsonBody doc request body = IsSomeAnd (schema_under (codes "application/json") body) (IsJsonOf doc request)

-- a body under `application/x-www-form-urlencoded` has a schema, and is a form of it
abbrev pub IsFormBody : Json → WireRequest → Json → Type 0
IsFormBody doc request body = IsSomeAnd (schema_under (codes "application/x-www-form-urlencoded") body) (IsFormOf doc request)

-- a body holds under one of its media types; under any but these it does not
abbrev pub BodyHolds : Json → WireRequest → Json → Type 0
BodyHolds doc request body = IsBytesBody body ⊎ (IsJsonBody doc request body ⊎ IsFormBody doc request body)
