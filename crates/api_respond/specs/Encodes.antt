-- Which response a reply is sent as, and what is left of the reply.
use Rattle.std.specs.Prelude.{◌≡◌, ◌⊎◌, ℕ, List, ◌++◌, codes}
use Rattle.std.specs.declared.result.Result.TheVariants.{Ok, Err}
use Rattle.descriptors.specs.declared.table.Definition.{Definition}
use Rattle.flat_maps.specs.TextMaps.{TextEntry}
use Rattle.header_lists.specs.HeaderLists.{Line}
use Rattle.http_status.specs.Errors.{internal_error}
use Rattle.http_status.specs.declared.error.HttpError.{HttpError}
use Rattle.http_status.specs.declared.response.Response.{Response}
use Rattle.handler_shapes.specs.declared.shape.ApiEndpointResponse.{ApiEndpointResponse}
use Rattle.handler_shapes.specs.declared.shape.HandlerShape.{HandlerShape}
use Rattle.api_respond.specs.NamedHeaders.{AreHeaderLines, IsFirstRefused, headers_written}
use Rattle.api_respond.specs.Responses.{content_body, failure_response, success_left, success_lines}
use Rattle.api_respond.specs.declared.reply.ErrorReply.{ErrorReply}
use Rattle.api_respond.specs.declared.reply.Reply.{Reply}
use Rattle.api_respond.specs.declared.reply.Reply.TheVariants.{Success, Failure}
use Rattle.api_respond.specs.declared.reply.SuccessReply.{SuccessReply}

-- what a handler makes of errors
abbrev pub Turns : Type 1
Turns = HttpError → ErrorReply → Type 0

-- the lines of a success whose named headers are header lines
pub record AreSent (table : List Definition) (response : ApiEndpointResponse) (reply : SuccessReply)
    (sent : List Line) : Type 0 where
  pub entries : List TextEntry
  pub written : headers_written table response.headers reply.named ≡ Ok entries
  pub valid : AreHeaderLines entries
  pub lines : sent ≡ success_lines entries reply

-- what is told of named headers that are written as no map, or of the first that is no header line
pub data WhyUnsent (table : List Definition) (response : ApiEndpointResponse) (reply : SuccessReply)
    (message : List ℕ) : Type 0 where
  no_map : (text : List ℕ) → headers_written table response.headers reply.named ≡ Err text
      → message ≡ codes "error processing headers: " ++ text → WhyUnsent table response reply message
  no_line : (entries : List TextEntry) → headers_written table response.headers reply.named ≡ Ok entries
      → IsFirstRefused entries message → WhyUnsent table response reply message

-- a success is sent: its status, its lines, and the body of its content, which moves
pub record IsSent (shape : HandlerShape) (reply : SuccessReply) (response : Response)
    (after : SuccessReply) : Type 0 where
  pub status : response.status ≡ reply.status
  pub lines : AreSent shape.table shape.response reply response.headers
  pub body : response.body ≡ content_body shape.table shape.response.content reply.content
  pub left : after ≡ success_left reply

-- what a handler makes of an error is sent
pub record RefusalEncodes (shape : HandlerShape) (turns : Turns) (error : HttpError) (id : List ℕ)
    (sent : Response) : Type 0 where
  pub reply : ErrorReply
  pub turned : turns error reply
  pub response : sent ≡ failure_response shape reply id

-- a success is not sent, but what the handler makes of an internal error that tells why; nothing moves
pub record IsUnsent (shape : HandlerShape) (turns : Turns) (reply : SuccessReply) (id : List ℕ)
    (sent : Response) (after : SuccessReply) : Type 0 where
  pub message : List ℕ
  pub cause : WhyUnsent shape.table shape.response reply message
  pub refusal : RefusalEncodes shape turns (internal_error message) id sent
  pub left : after ≡ reply

-- what a success is sent as
abbrev pub SuccessEncodes : HandlerShape → Turns → SuccessReply → List ℕ → Response → SuccessReply → Type 0
SuccessEncodes shape turns reply id response left =
    IsSent shape reply response left ⊎ IsUnsent shape turns reply id response left

-- what a reply to the request of an id is sent as, and what is left of it
abbrev pub Encodes : HandlerShape → Turns → Reply → List ℕ → Response → Reply → Type 0
Encodes shape turns (Success reply) id response (Success left) = SuccessEncodes shape turns reply id response left
Encodes shape turns (Success reply) id response (Failure left) = ⊥
Encodes shape turns (Failure error) id response left =
    (response ≡ failure_response shape error id) × (left ≡ Failure error)
