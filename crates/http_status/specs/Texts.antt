-- What errors are told as.
use Rattle.std.specs.Prelude.{ℕ, List, ◌++◌, Option, Some, None, codes, decimal}
use Rattle.std.specs.Fmt.{◌++?◌, debug_list, debug_option, debug_str}
use Rattle.std.specs.Str.{encode_utf8_all}
use Rattle.http.specs.StatusCode.{status_text}
use Rattle.header_lists.specs.HeaderLists.{Line}
use Rattle.http_status.specs.declared.error.HttpError.{HttpError}
use Rattle.http_status.specs.declared.error_headers.HeaderError.{HeaderError}
use Rattle.http_status.specs.declared.error_headers.HeaderError.TheVariants as header
use Rattle.http_status.specs.declared.refusal.HttpRefusal.{HttpRefusal}
use Rattle.http_status.specs.declared.refusal.HttpRefusal.TheVariants as refused
use Rattle.http_status.specs.declared.request_id.RequestIdError.{RequestIdError}
use Rattle.http_status.specs.declared.request_id.RequestIdError.TheVariants as id

-- as `HttpError(400 Bad Request): message`
abbrev pub error_text : HttpError → List ℕ
error_text error =
    codes "HttpError(" ++ status_text error.status_code ++ codes "): "
    ++ encode_utf8_all error.external_message

-- the debug text of a text, in quotes; that of one past ASCII is not said
abbrev pub text_debug : List ℕ → Option (List ℕ)
text_debug text = debug_str (encode_utf8_all text)

-- the debug text where there are no lines; that of a line is not said
abbrev pub lines_debug : Option (List Line) → Option (List ℕ)
lines_debug = debug_option (debug_list (λ line. None))

-- the fields by their names, where the debug text of each is said
abbrev pub error_debug_text : HttpError → Option (List ℕ)
error_debug_text error =
    Some (codes "HttpError { status_code: ") ++? Some (decimal error.status_code)
    ++? Some (codes ", error_code: ") ++? debug_option text_debug error.error_code
    ++? Some (codes ", external_message: ") ++? text_debug error.external_message
    ++? Some (codes ", internal_message: ") ++? text_debug error.internal_message
    ++? Some (codes ", headers: ") ++? lines_debug error.headers
    ++? Some (codes " }")

-- an error that is answered as it is
abbrev pub refusal_text : HttpRefusal → List ℕ
refusal_text (refused.Http error) = error_text error
refusal_text refused.OutOfMemory = codes "out of memory"

-- what is wrong with a header line
abbrev pub header_error_text : HeaderError → List ℕ
header_error_text header.BadName = codes "invalid header name"
header_error_text header.BadValue = codes "invalid header value"
header_error_text header.OutOfMemory = codes "out of memory"

-- what is wrong with the id of a request
abbrev pub request_id_error_text : RequestIdError → List ℕ
request_id_error_text id.BadRequestId = codes "invalid request id"
request_id_error_text id.OutOfMemory = codes "out of memory"
