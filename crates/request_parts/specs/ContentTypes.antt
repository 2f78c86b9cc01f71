-- The kinds of bodies and their media types (OpenAPI 3.0.3, Media Types; RFC 6838).
use Rattle.std.specs.Prelude.{ℕ, List, Option, Some, None, if◌then◌else◌, bytes_eq, codes}
use Rattle.request_words.specs.MediaTypes.{is_json_type, is_form_type}
use Rattle.request_parts.specs.declared.content_type.ApiEndpointBodyContentType.{ApiEndpointBodyContentType}
use Rattle.request_parts.specs.declared.content_type.ApiEndpointBodyContentType.TheVariants.{Bytes, Json, UrlEncoded, MultipartFormData}

-- the media type of a kind
abbrev pub mime_of : ApiEndpointBodyContentType → List ℕ
mime_of Bytes = codes "application/octet-stream"
mime_of Json = codes "application/json"
mime_of UrlEncoded = codes "application/x-www-form-urlencoded"
mime_of MultipartFormData = codes "multipart/form-data"

-- the kind of a media type: one of these, or JSON for a subtype of `application/` whose whole text behind its first plus
-- is `json`
abbrev pub kind_of : List ℕ → Option ApiEndpointBodyContentType
kind_of media =
    if bytes_eq media (codes "application/octet-stream") then Some Bytes
    else if is_json_type media then Some Json
    else if is_form_type media then Some UrlEncoded
    else if bytes_eq media (codes "multipart/form-data") then Some MultipartFormData
    else None
