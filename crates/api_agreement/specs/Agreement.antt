-- What the document of endpoints says of requests: of those to an operation it admits exactly the ones that denote
-- arguments for the slots of the endpoint (OpenAPI 3.0.3, Operation Object).
use Rattle.std.specs.Prelude.{◌≡◌, ◌↔◌, ◌⊎◌, ℕ, false, List, None, IsOk}
use Rattle.schema_values.specs.declared.json_value.Json.{Json}
use Rattle.request_words.specs.declared.request.WireRequest.{WireRequest}
use Rattle.request_words.specs.Pairs.{query_pairs}
use Rattle.http_bodies.specs.Bodies.{BodyState, frames_of}
use Rattle.http_bodies.specs.Frames.{all_data}
use Rattle.openapi_values.specs.Admits.{Admits}
use Rattle.openapi_values.specs.Pages.{has_token}
use Rattle.request_parts.specs.Requests.{Request}
use Rattle.request_parts.specs.Wire.{wire_of}
use Rattle.handler_shapes.specs.declared.arguments.Arg.{Arg}
use Rattle.api_extract.specs.Denotes.{Denotes, Terms, terms}
use Rattle.api_extract.specs.Extraction.{IsWithin, extracted}
use Rattle.api_declarations.specs.Values.{DeclarationValue}
use Rattle.endpoint_metadata.specs.Modes.{first_asked}
use Rattle.api_documents.specs.Listed.{path_of}

-- ---- what is said of one request

-- on what terms a request to an endpoint is read, under a limit of content and a budget of frames
abbrev pub terms_of : DeclarationValue → ℕ → ℕ → Terms
terms_of d limit budget = terms d.shape.table d.body_content_type limit budget

-- a request denotes arguments for the slots of an endpoint
abbrev pub DenotesArguments : DeclarationValue → Terms → WireRequest → BodyState → Type 0
DenotesArguments d terms request body = (args : List Arg) × Denotes terms d.shape.slots request body args

-- a document admits a request at the path and under the method of an endpoint
abbrev pub IsAdmitted : Json → DeclarationValue → WireRequest → Type 0
IsAdmitted document d request = Admits document (path_of d) d.method request

-- an endpoint does not answer in pages, or a request to it has no page token
abbrev pub SendsNoToken : DeclarationValue → WireRequest → Type 0
SendsNoToken d request =
    (first_asked d.shape.table d.shape.slots ≡ None) ⊎ (has_token (query_pairs request.query) ≡ false)

-- ---- the same of a request whose body comes in frames

-- a request and the whole content of its body, as it is sent
abbrev pub sent : Request → BodyState → WireRequest
sent request body = wire_of request (all_data (frames_of body))

-- what is read of a request, and of the frames of its body, gives arguments
abbrev pub GivesArguments : DeclarationValue → Terms → Request → BodyState → Type 0
GivesArguments d terms request body = IsOk (extracted terms d.shape.slots request body)

-- ---- what a document says of all requests to an endpoint

-- Of those that send no page token it admits exactly the ones that denote arguments. Whatever they send, it admits each
-- that does. And of those whose bodies are within the limits it admits, where they send no page token, exactly the ones
-- of which arguments are read.
pub record Agrees (document : Json) (d : DeclarationValue) : Type 0 where
  pub exact : (request : WireRequest) (body : BodyState) (limit budget : ℕ) → SendsNoToken d request
      → IsAdmitted document d request ↔ DenotesArguments d (terms_of d limit budget) request body
  pub denoted : (request : WireRequest) (body : BodyState) (limit budget : ℕ)
      → DenotesArguments d (terms_of d limit budget) request body → IsAdmitted document d request
  pub given : (request : Request) (body : BodyState) (limit budget : ℕ) → IsWithin (terms_of d limit budget) body
      → SendsNoToken d (sent request body)
      → IsAdmitted document d (sent request body) ↔ GivesArguments d (terms_of d limit budget) request body
