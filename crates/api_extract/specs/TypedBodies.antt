-- What the body of a request denotes under a type, by the media type of the request and that of the endpoint (RFC 9110,
-- sections 8.3 and 8.3.1; OpenAPI 3.0.3, Request Body Object).
use Rattle.std.specs.Prelude.{ℕ, List, Option, Some, None, codes}
use Rattle.std.specs.Option.{option_map_or}
use Rattle.schema_values.specs.declared.json_value.Json.{Json}
use Rattle.request_words.specs.declared.request.HeaderLine.{HeaderLine}
use Rattle.request_words.specs.MediaTypes.{media_type, type_of_value}
use Rattle.request_words.specs.Pairs.{form_pairs}
use Rattle.request_parts.specs.declared.content_type.ApiEndpointBodyContentType.{ApiEndpointBodyContentType}
use Rattle.request_parts.specs.declared.content_type.ApiEndpointBodyContentType.TheVariants.{Json as AsJson, UrlEncoded}
use Rattle.request_parts.specs.ContentTypes.{kind_of, mime_of}
use Rattle.descriptors.specs.declared.desc.Desc.{Desc}
use Rattle.descriptors.specs.declared.table.Definition.{Definition}
use Rattle.typed_values.specs.declared.fault.FaultKind.TheVariants.{NotJson, ContentTypeBytes}
use Rattle.typed_values.specs.declared.fault.FaultKind.TheVariants.{ContentTypeUnsupported, ContentTypeMismatch}
use Rattle.typed_values.specs.Denotes.{Told, refused, told}
use Rattle.flat_maps.specs.declared.repeats.Repeats.TheVariants.{Refuse}
use Rattle.flat_maps.specs.Pairs.{pairs_told}
use Rattle.api_extract.specs.Readings.{value_read}
use Rattle.api_extract.specs.Refusals.{GivenArg, refused_plainly, told_as}

-- the media type that the value of the first `content-type` line gives, or the one where there is no such line
abbrev pub media_by_value : Option (List ℕ) → Option (List ℕ)
media_by_value value = option_map_or type_of_value value (Some (codes "application/json"))

-- what is told of a JSON value that was read, if there is one
abbrev pub read_told : List Definition → Desc → Option Json → Told
read_told table desc None = refused NotJson
read_told table desc (Some json) = told table desc json desc

-- bytes as JSON
abbrev pub json_body : List Definition → Desc → List ℕ → GivenArg
json_body table desc bytes = told_as (codes "unable to parse JSON body: ") (read_told table desc (value_read bytes))

-- bytes as a form: each field's name stands at most once among its pairs
abbrev pub form_body : List Definition → Desc → List ℕ → GivenArg
form_body table desc bytes =
    told_as (codes "unable to parse URL-encoded body: ") (pairs_told table Refuse (form_pairs bytes) desc)

-- the kind that the endpoint expects, and the kind that is given: these two are read, where they are the same
abbrev pub body_by_kinds :
    List Definition → Desc → List ℕ → ApiEndpointBodyContentType → ApiEndpointBodyContentType → GivenArg
body_by_kinds table desc bytes AsJson AsJson = json_body table desc bytes
body_by_kinds table desc bytes UrlEncoded UrlEncoded = form_body table desc bytes
body_by_kinds table desc bytes expected given = refused_plainly (ContentTypeMismatch (mime_of expected) (mime_of given))

-- by the kind of the media type that is given, if it is one that a body may have
abbrev pub body_by_given :
    List Definition → Desc → List ℕ → ApiEndpointBodyContentType → List ℕ → Option ApiEndpointBodyContentType → GivenArg
body_by_given table desc bytes expected media None = refused_plainly (ContentTypeUnsupported media)
body_by_given table desc bytes expected media (Some given) = body_by_kinds table desc bytes expected given

-- by the media type of the request, none where a byte of it is not shown
abbrev pub body_by_media : List Definition → Desc → List ℕ → ApiEndpointBodyContentType → Option (List ℕ) → GivenArg
body_by_media table desc bytes expected None = refused_plainly ContentTypeBytes
body_by_media table desc bytes expected (Some media) = body_by_given table desc bytes expected media (kind_of media)

-- a body under a type: its media type is looked at first
abbrev pub typed_body : List Definition → Desc → ApiEndpointBodyContentType → List HeaderLine → List ℕ → GivenArg
typed_body table desc expected lines bytes = body_by_media table desc bytes expected (media_type lines)
