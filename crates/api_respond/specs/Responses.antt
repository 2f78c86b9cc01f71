-- The responses of successes and of errors (RFC 9110, sections 8.3 and 15).
use Rattle.std.specs.Prelude.{ℕ, List, [], ◌∷◌, Option, Some, None, codes}
use Rattle.std.specs.Str.{encode_utf8_all}
use Rattle.schema_values.specs.Print.{compact_of}
use Rattle.schema_values.specs.declared.json_value.Json.{Json as JsonValue}
use Rattle.descriptors.specs.declared.table.Definition.{Definition}
use Rattle.descriptors.specs.declared.tree.Tree.{Tree}
use Rattle.typed_values.specs.Encoding.{json_of_tree}
use Rattle.flat_maps.specs.TextMaps.{TextEntry}
use Rattle.header_lists.specs.HeaderLists.{Line, extended}
use Rattle.http_bodies.specs.Bodies.{BodyState, never_failing}
use Rattle.http_bodies.specs.Frames.{content_frames}
use Rattle.http_status.specs.ErrorLines.{header_line}
use Rattle.http_status.specs.Responses.{error_response, id_line, json_line}
use Rattle.http_status.specs.declared.response.Response.{Response}
use Rattle.handler_shapes.specs.declared.shape.ApiEndpointErrorResponse.{ApiEndpointErrorResponse}
use Rattle.handler_shapes.specs.declared.shape.ContentShape.{ContentShape}
use Rattle.handler_shapes.specs.declared.shape.ContentShape.TheVariants as shapes
use Rattle.handler_shapes.specs.declared.shape.HandlerShape.{HandlerShape}
use Rattle.api_respond.specs.NamedHeaders.{with_named}
use Rattle.api_respond.specs.declared.reply.Content.{Content}
use Rattle.api_respond.specs.declared.reply.Content.TheVariants.{Empty, Json, Freeform, Bare}
use Rattle.api_respond.specs.declared.reply.ErrorReply.{ErrorReply}
use Rattle.api_respond.specs.declared.reply.ErrorReply.TheVariants.{Http, Own}
use Rattle.api_respond.specs.declared.reply.SuccessReply.{SuccessReply}

-- a body that is JSON without blanks
abbrev pub compact_body : JsonValue → BodyState
compact_body json = never_failing (content_frames (encode_utf8_all (compact_of json)))

-- the line that says that the body is bytes of any kind
abbrev pub octet_line : Line
octet_line = header_line (codes "content-type") (codes "application/octet-stream")

-- the line that tells the type of a content
abbrev pub content_lines : Content → List Line
content_lines (Json tree) = json_line ∷ []
content_lines (Freeform body) = octet_line ∷ []
content_lines Empty = []
content_lines (Bare body) = []

-- the lines of a success whose named headers have these names and texts
abbrev pub success_lines : List TextEntry → SuccessReply → List Line
success_lines entries reply = extended (with_named entries (content_lines reply.content)) reply.others

-- the JSON of a tree; a shape that is not JSON has none
abbrev pub json_content : List Definition → ContentShape → Tree → BodyState
json_content table (shapes.Json desc name) tree = compact_body (json_of_tree table desc tree)
json_content table shapes.Empty tree = never_failing []
json_content table shapes.Freeform tree = never_failing []

-- the body of a content
abbrev pub content_body : List Definition → ContentShape → Content → BodyState
content_body table shape (Json tree) = json_content table shape tree
content_body table shape Empty = never_failing []
content_body table shape (Freeform body) = body
content_body table shape (Bare body) = body

-- a content whose body was taken out
abbrev pub content_left : Content → Content
content_left (Json tree) = Json tree
content_left Empty = Empty
content_left (Freeform body) = Freeform (never_failing [])
content_left (Bare body) = Bare (never_failing [])

-- a success whose body was taken out
abbrev pub success_left : SuccessReply → SuccessReply
success_left reply = record reply { content = content_left reply.content }

-- the body of an own error; a shape without an error has none
abbrev pub own_body : List Definition → Option ApiEndpointErrorResponse → Tree → BodyState
own_body table None tree = never_failing []
own_body table (Some error) tree = compact_body (json_of_tree table error.desc tree)

-- the response of an error: of the library's own as `HttpError` says; of another its status, the type of the body, the
-- id of the request, and its JSON
abbrev pub failure_response : HandlerShape → ErrorReply → List ℕ → Response
failure_response shape (Http error) id = error_response error id
failure_response shape (Own status body message) id = record {
  status = status;
  headers = json_line ∷ id_line id ∷ [];
  body = own_body shape.table shape.error body;
}
