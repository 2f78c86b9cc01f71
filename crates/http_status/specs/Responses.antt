-- The responses of errors (RFC 9110, section 15; the type of a body: section 8.3).
use Rattle.std.specs.Prelude.{◌≡◌, ℕ, List, [], ◌∷◌, ◌++◌, Option, codes, unwrap_or}
use Rattle.std.specs.Str.{encode_utf8_all}
use Rattle.schema_values.specs.declared.json_value.Json.{Json}
use Rattle.schema_values.specs.Pretty.{pretty_of}
use Rattle.descriptors.specs.declared.table.Definition.{Definition}
use Rattle.typed_values.specs.Encoding.{json_of_tree}
use Rattle.api_types.specs.Types.{IsTableOf}
use Rattle.header_lists.specs.HeaderLists.{Line}
use Rattle.http_bodies.specs.Bodies.{BodyState, never_failing}
use Rattle.http_bodies.specs.declared.frame.Frame.TheVariants.{Bytes}
use Rattle.http_status.specs.ErrorBodies.{error_body, error_body_json, error_body_tree}
use Rattle.http_status.specs.ErrorBodies.{error_definition, error_desc}
use Rattle.http_status.specs.ErrorLines.{header_line}
use Rattle.http_status.specs.declared.error.HttpError.{HttpError}
use Rattle.http_status.specs.declared.error_body.HttpErrorResponseBody.{HttpErrorResponseBody}
use Rattle.http_status.specs.declared.response.Response.{Response}

-- the line that says that the body is JSON
abbrev pub json_line : Line
json_line = header_line (codes "content-type") (codes "application/json")

-- the line of the request's id
abbrev pub id_line : List ℕ → Line
id_line id = header_line (codes "x-request-id") (encode_utf8_all id)

-- the lines of an error's own, if it has any, then the type of the body and the request's id
abbrev pub lines_behind : Option (List Line) → List ℕ → List Line
lines_behind own id = unwrap_or own [] ++ json_line ∷ id_line id ∷ []

-- a body of one frame, which is JSON on lines of its own
abbrev pub pretty_body : Json → BodyState
pretty_body json = never_failing (Bytes (encode_utf8_all (pretty_of json)) ∷ [])

-- the error's status; its own lines and those behind them; what the client is told
abbrev pub error_response : HttpError → List ℕ → Response
error_response error id = record {
  status = error.status_code;
  headers = lines_behind error.headers id;
  body = pretty_body (error_body_json (error_body error id));
}

-- the frames are the JSON of the body's tree, in each table that has its definition
abbrev pub ShowsTree : HttpErrorResponseBody → BodyState → Type 0
ShowsTree body frames =
    (table : List Definition) → IsTableOf (error_definition ∷ []) error_desc table
    → frames ≡ pretty_body (json_of_tree table error_desc (error_body_tree body))
