-- Replies that fit the shape of a handler.
use Rattle.std.specs.Prelude.{◌≡◌, ◌⊎◌, ℕ, ⊤, List, Option, Some, None, MatchOption, codes}
use Rattle.descriptors.specs.Definitions.{entry_of}
use Rattle.descriptors.specs.declared.desc.Desc.{Desc}
use Rattle.descriptors.specs.declared.table.Definition.{Definition}
use Rattle.descriptors.specs.declared.tree.Tree.{Tree}
use Rattle.typed_values.specs.Fits.{Fits}
use Rattle.handler_shapes.specs.declared.shape.ApiEndpointErrorResponse.{ApiEndpointErrorResponse}
use Rattle.handler_shapes.specs.declared.shape.ApiEndpointResponse.{ApiEndpointResponse}
use Rattle.handler_shapes.specs.declared.shape.ContentShape.{ContentShape}
use Rattle.handler_shapes.specs.declared.shape.ContentShape.TheVariants as shapes
use Rattle.handler_shapes.specs.declared.shape.HandlerShape.{HandlerShape}
use Rattle.http_status.specs.ErrorBodies.{error_definition, error_desc}
use Rattle.api_respond.specs.declared.reply.Content.{Content}
use Rattle.api_respond.specs.declared.reply.Content.TheVariants.{Empty, Json, Freeform, Bare}
use Rattle.api_respond.specs.declared.reply.ErrorReply.{ErrorReply}
use Rattle.api_respond.specs.declared.reply.ErrorReply.TheVariants.{Http, Own}
use Rattle.api_respond.specs.declared.reply.Reply.{Reply}
use Rattle.api_respond.specs.declared.reply.Reply.TheVariants.{Success, Failure}
use Rattle.api_respond.specs.declared.reply.SuccessReply.{SuccessReply}

-- a tree is of a content that is JSON
abbrev pub JsonFits : List Definition → ContentShape → Tree → Type 0
JsonFits table (shapes.Json desc name) tree = Fits table desc tree
JsonFits table shapes.Empty tree = ⊥
JsonFits table shapes.Freeform tree = ⊥

-- a content is of its shape; bytes of any kind come with the header line of their type or without
abbrev pub ContentFits : List Definition → ContentShape → Content → Type 0
ContentFits table shape (Json tree) = JsonFits table shape tree
ContentFits table shape Empty = shape ≡ shapes.Empty
ContentFits table shape (Freeform body) = shape ≡ shapes.Freeform
ContentFits table shape (Bare body) = shape ≡ shapes.Freeform

-- bytes without that line come only where the shape has no code
abbrev pub BareFits : Option ℕ → Content → Type 0
BareFits code (Bare body) = code ≡ None
BareFits code (Json tree) = ⊤
BareFits code Empty = ⊤
BareFits code (Freeform body) = ⊤

-- named headers stand exactly where the shape has them
abbrev pub HeadersFit : List Definition → Option Desc → Option Tree → Type 0
HeadersFit table None None = ⊤
HeadersFit table None (Some tree) = ⊥
HeadersFit table (Some desc) None = ⊥
HeadersFit table (Some desc) (Some tree) = Fits table desc tree

-- a success has the code of its shape where there is one, and content and named headers of the shape
pub record SuccessFits (table : List Definition) (response : ApiEndpointResponse) (reply : SuccessReply) : Type 0 where
  pub code : MatchOption response.success ⊤ (λ code. reply.status ≡ code)
  pub content : ContentFits table response.content reply.content
  pub bare : BareFits response.success reply.content
  pub named : HeadersFit table response.headers reply.named

-- errors of a shape are those of the library: the error is named as their body's type, which the table defines
pub record HasHttpErrors (shape : HandlerShape) : Type 0 where
  pub named : shape.error ≡ Some (record { desc = error_desc; name = codes "Error" })
  pub defined : entry_of shape.table (codes "Error") ≡ Some error_definition

-- the body of an own error is of the shape's error
abbrev pub OwnFits : List Definition → Option ApiEndpointErrorResponse → Tree → Type 0
OwnFits table None body = ⊥
OwnFits table (Some error) body = Fits table error.desc body

-- an error of the library is of a shape that names no error, or such errors
abbrev pub ErrorFits : HandlerShape → ErrorReply → Type 0
ErrorFits shape (Http error) = (shape.error ≡ None) ⊎ HasHttpErrors shape
ErrorFits shape (Own status body message) = OwnFits shape.table shape.error body

-- a reply is of a shape
abbrev pub ReplyFits : HandlerShape → Reply → Type 0
ReplyFits shape (Success reply) = SuccessFits shape.table shape.response reply
ReplyFits shape (Failure error) = ErrorFits shape error

-- a shape without a code gives bytes of any kind, and names no headers
pub record IsFreeformWithoutCode (shape : HandlerShape) : Type 0 where
  pub content : shape.response.success ≡ None → shape.response.content ≡ shapes.Freeform
  pub headers : shape.response.success ≡ None → shape.response.headers ≡ None
