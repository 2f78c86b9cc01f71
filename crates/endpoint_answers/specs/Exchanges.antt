-- What comes of a request. It is looked at in this order: its id, the endpoint that it names, its variables, what it
-- gives a path, a query and headers, its body, and what that gives; then the handler is called. The first that is not
-- so is told, and leaves the store.
use Rattle.std.specs.Prelude.{◌≡◌, ◌⊎◌, ℕ, true, All, IsOk, IsTrue, List, Option, Some, None, Result, map, unwrap_or}
use Rattle.std.specs.List.{list_any}
use Rattle.std.specs.declared.result.Result.TheVariants.{Ok, Err}
use Rattle.std.specs.Str.{encode_utf8_all}
use Rattle.http_header.specs.FieldValue.{IsFieldValue}
use Rattle.http_bodies.specs.Bodies.{BodyState, can_fail_of, frames_of}
use Rattle.http_bodies.specs.Frames.{all_data}
use Rattle.body_reading.specs.Flaws.{flaw_error}
use Rattle.body_reading.specs.Whole.{IsOverBudget, IsTooLarge}
use Rattle.body_reading.specs.declared.flaw.BodyFlaw.TheVariants as flaw
use Rattle.request_words.specs.declared.request.WireRequest.{WireRequest}
use Rattle.tree_store.specs.Tables.{Tables}
use Rattle.typed_values.specs.declared.fault.Fault.{Fault}
use Rattle.http_status.specs.Errors.{bad_request}
use Rattle.http_status.specs.declared.error.HttpError.{HttpError}
use Rattle.http_status.specs.declared.response.Response.{Response}
use Rattle.path_templates.specs.Places.{IsIndexOf}
use Rattle.path_templates.specs.Variables.{IsFilledBy}
use Rattle.path_templates.specs.declared.place_index.PlaceIndex.{PlaceIndex}
use Rattle.request_parts.specs.Requests.{Request}
use Rattle.request_parts.specs.Wire.{wire_of}
use Rattle.request_parts.specs.declared.config.ServerConfig.{ServerConfig}
use Rattle.handler_shapes.specs.Arguments.{ArgsStay}
use Rattle.handler_shapes.specs.BodySlots.{BodyComesLast, takes_body}
use Rattle.handler_shapes.specs.ShapeChecks.{ShapePasses}
use Rattle.handler_shapes.specs.declared.arguments.Arg.{Arg}
use Rattle.handler_shapes.specs.declared.shape.HandlerShape.{HandlerShape}
use Rattle.api_extract.specs.Causes.{IsDenoted}
use Rattle.api_extract.specs.Denotes.{Denotes, GivenArgs, Terms, terms}
use Rattle.api_extract.specs.Extraction.{AsksForBody, IsWithin, extracted, shared_told}
use Rattle.api_extract.specs.declared.extract_error.ExtractError.TheVariants as errors
use Rattle.api_respond.specs.Encodes.{Encodes, RefusalEncodes}
use Rattle.api_respond.specs.Replies.{ReplyFits}
use Rattle.api_respond.specs.declared.context.RequestContext.{RequestContext}
use Rattle.api_respond.specs.declared.reply.Reply.{Reply}
use Rattle.api_declarations.specs.Keys.{template_keys}
use Rattle.api_declarations.specs.Serving.{Serves, endpoint_for}
use Rattle.api_declarations.specs.Values.{DeclarationValue}
use Rattle.api_endpoints.specs.Endpoints.{Meanings, declaration_of, declarations_of, shape_at, turns_at}
use Rattle.api_endpoints.specs.declared.endpoint.ApiEndpoint.{ApiEndpoint}
use Rattle.endpoint_answers.specs.declared.outcome.Exchange.{Exchange}
use Rattle.endpoint_answers.specs.declared.outcome.Exchange.TheVariants.{Handled, Refused}
use Rattle.endpoint_answers.specs.declared.outcome.ExchangeError.{ExchangeError}
use Rattle.endpoint_answers.specs.declared.outcome.ExchangeError.TheVariants as failed

-- ---- what is asked

-- a request, under the limits of a server, from a store
pub record Call : Type 0 where
  pub config : ServerConfig
  pub request : Request
  pub store : Tables

-- the same with a body, of which so many frames may come
pub record Asked : Type 0 where
  pub call : Call
  pub body : BodyState
  pub budget : ℕ

-- a call by its parts, and with a body
abbrev pub called : ServerConfig → Request → Tables → Call
called config request store = record { config = config; request = request; store = store }

abbrev pub asked : Call → BodyState → ℕ → Asked
asked call body budget = record { call = call; body = body; budget = budget }

-- the request with the whole content of its body, as it is sent
abbrev pub sent_by : Asked → WireRequest
sent_by a = wire_of a.call.request (all_data (frames_of a.body))

-- ---- which endpoints may be asked, and which of them is to answer

-- a shape passes its checks, and the slot that takes the body comes last
pub record IsServable (shape : HandlerShape) : Type 0 where
  pub passes : ShapePasses shape
  pub last : BodyComesLast shape.slots

-- so it is for the handler of each endpoint
abbrev pub AreServable : {X : Type 0} {F : X → Type 0} → Meanings X F → List (ApiEndpoint X F) → Type 0
AreServable m = All (λ e. IsServable (shape_at m e))

-- an index has the places of endpoints by their templates
abbrev pub AreIndexed : {X : Type 0} {F : X → Type 0} → Meanings X F → List (ApiEndpoint X F) → PlaceIndex → Type 0
AreIndexed m endpoints index = IsIndexOf (map template_keys (declarations_of m endpoints)) index

-- the id may stand in a header
abbrev pub HasId : Request → Type 0
HasId request = IsFieldValue (encode_utf8_all request.request_id)

-- the variables are those of the template of an endpoint: one text for a variable, components for a wildcard
abbrev pub HasVariables : DeclarationValue → Request → Type 0
HasVariables d request = IsFilledBy d.path request.variables

-- an endpoint serves a request: it has its method and its template, and its range holds its version
abbrev pub ServesRequest : DeclarationValue → Request → Type 0
ServesRequest d request = Serves request.version request.info.method request.template d

-- the endpoint that a request names: the first that serves it, hidden ones too
abbrev pub named_by :
    {X : Type 0} {F : X → Type 0} → Meanings X F → List (ApiEndpoint X F) → Request → Option (ApiEndpoint X F)
named_by m endpoints request =
    endpoint_for (declaration_of m) request.version request.info.method request.template endpoints

-- a request has a valid id, names an endpoint, and has the variables of its template
pub record Reaches {X : Type 0} {F : X → Type 0} (m : Meanings X F) (endpoints : List (ApiEndpoint X F))
    (request : Request) (e : ApiEndpoint X F) : Type 0 where
  pub id : HasId request
  pub named : named_by m endpoints request ≡ Some e
  pub serves : ServesRequest (declaration_of m e) request
  pub variables : HasVariables (declaration_of m e) request

-- a request has a valid id and names an endpoint, but its variables are not those of the template
pub record HasWrongVariables {X : Type 0} {F : X → Type 0} (m : Meanings X F) (endpoints : List (ApiEndpoint X F))
    (request : Request) : Type 0 where
  pub id : HasId request
  pub endpoint : ApiEndpoint X F
  pub named : named_by m endpoints request ≡ Some endpoint
  pub serves : ServesRequest (declaration_of m endpoint) request
  pub other : ¬ HasVariables (declaration_of m endpoint) request

-- a request has a valid id, and no endpoint serves it
pub record NamesNone {X : Type 0} {F : X → Type 0} (m : Meanings X F) (endpoints : List (ApiEndpoint X F))
    (request : Request) : Type 0 where
  pub id : HasId request
  pub none : All (λ e. ¬ ServesRequest (declaration_of m e) request) endpoints

-- why a request reaches no endpoint; want of memory is told only of one that does
abbrev pub IsUnreached : {X : Type 0} {F : X → Type 0} → Meanings X F → List (ApiEndpoint X F) → Request
    → ExchangeError → Type 0
IsUnreached m endpoints request failed.BadRequestId = ¬ HasId request
IsUnreached m endpoints request failed.NoSuchOperation = NamesNone m endpoints request
IsUnreached m endpoints request failed.WrongVariables = HasWrongVariables m endpoints request
IsUnreached m endpoints request failed.OutOfMemory = (e : ApiEndpoint _ _) × Reaches m endpoints request e
IsUnreached m endpoints request (failed.BodyFault response) = ⊥
IsUnreached m endpoints request (failed.BodyTooLarge sum response) = ⊥
IsUnreached m endpoints request (failed.FrameBudget count) = ⊥

-- ---- what the endpoint is asked with

-- how many bytes a body has at most: as the endpoint says, and else the server
abbrev pub limit_of : Option ℕ → ServerConfig → ℕ
limit_of own config = unwrap_or own config.default_request_body_max_bytes

abbrev pub limit_at : {X : Type 0} {F : X → Type 0} → ApiEndpoint X F → ServerConfig → ℕ
limit_at e config = limit_of e.request_body_max_bytes config

-- on what terms an endpoint reads a request, by what is said of it
abbrev pub terms_for : DeclarationValue → Asked → Terms
terms_for d a = terms d.shape.table d.body_content_type (limit_of d.body_limit a.call.config) a.budget

abbrev pub terms_at : {X : Type 0} {F : X → Type 0} → Meanings X F → ApiEndpoint X F → Asked → Terms
terms_at m e a = terms_for (declaration_of m e) a

-- what the request, and the frames of its body, give the slots of an endpoint's handler: arguments, or the first error
abbrev pub given_at : {X : Type 0} {F : X → Type 0} → Meanings X F → ApiEndpoint X F → Asked → GivenArgs
given_at m e a = extracted (terms_at m e a) (shape_at m e).slots a.call.request a.body

-- what a handler is told besides its arguments
abbrev pub context_of : {X : Type 0} {F : X → Type 0} → ApiEndpoint X F → ServerConfig → Request → RequestContext
context_of e config request = record {
  endpoint = record {
    operation_id = e.operation_id;
    variables = request.variables;
    body_content_type = e.body_content_type;
    request_body_max_bytes = e.request_body_max_bytes;
  };
  request_id = request.request_id;
  request = request.info;
  config = config;
}

-- ---- what it answers

-- the handler may reply so to some arguments, from the store of the call to that after; the reply is of its shape
pub record MayReply {X : Type 0} {F : X → Type 0} (m : Meanings X F) (e : ApiEndpoint X F) (call : Call)
    (args : List Arg) (reply : Reply) (after : Tables) : Type 0 where
  pub allowed : (m e).allows e.handler.value (context_of e call.config call.request) call.store args reply after
  pub fits : ReplyFits (shape_at m e) reply

-- The handler was called on some arguments, of which trees and bytes stay; of a stream nothing is said. What it replied
-- is sent as the response, and this is left of the reply.
pub record IsReplied {X : Type 0} {F : X → Type 0} (m : Meanings X F) (e : ApiEndpoint X F) (call : Call)
    (args stayed : List Arg) (left : Reply) (response : Response) (after : Tables) : Type 0 where
  pub reply : Reply
  pub may : MayReply m e call args reply after
  pub stay : ArgsStay args stayed
  pub encodes : Encodes (shape_at m e) (turns_at m e) reply call.request.request_id response left

-- the response is what the endpoint's handler makes of an error
abbrev pub Refuses : {X : Type 0} {F : X → Type 0} → Meanings X F → ApiEndpoint X F → Call → HttpError → Response
    → Type 0
Refuses m e call error response = RefusalEncodes (shape_at m e) (turns_at m e) error call.request.request_id response

-- ---- the rows behind the first three

-- the request denotes these arguments, and its body was read within its limits where a slot reads it
pub record IsGivenArgs {X : Type 0} {F : X → Type 0} (m : Meanings X F) (e : ApiEndpoint X F) (a : Asked)
    (args : List Arg) : Type 0 where
  pub given : given_at m e a ≡ Ok args
  pub denoted : Denotes (terms_at m e a) (shape_at m e).slots (sent_by a) a.body args
  pub within : AsksForBody (shape_at m e).table (shape_at m e).slots a.call.request → IsWithin (terms_at m e a) a.body

-- the handler was called on the arguments that the request denotes
pub record IsHandled {X : Type 0} {F : X → Type 0} (m : Meanings X F) (e : ApiEndpoint X F) (a : Asked)
    (stayed : List Arg) (left : Reply) (response : Response) (after : Tables) : Type 0 where
  pub args : List Arg
  pub denoted : IsGivenArgs m e a args
  pub replied : IsReplied m e a.call args stayed left response after

-- the handler was called on them, and its reply was lost for want of memory
pub record IsLost {X : Type 0} {F : X → Type 0} (m : Meanings X F) (e : ApiEndpoint X F) (a : Asked)
    (after : Tables) : Type 0 where
  pub args : List Arg
  pub denoted : IsGivenArgs m e a args
  pub reply : Reply
  pub may : MayReply m e a.call args reply after

-- Why a request is refused: a path, a query or headers denote nothing, whatever the body is; or they are given their
-- arguments, and nothing is denoted with the body, which is within its limits where a slot reads it.
abbrev pub HasRefusalCause : {X : Type 0} {F : X → Type 0} → Meanings X F → ApiEndpoint X F → Asked → Fault → List ℕ
    → Type 0
HasRefusalCause m e a fault message =
    (shared_told (shape_at m e).table (shape_at m e).slots a.call.request ≡ Err (errors.Refused fault message))
    ⊎ IsOk (shared_told (shape_at m e).table (shape_at m e).slots a.call.request)
    × IsDenoted (terms_at m e a) (shape_at m e).slots a.call.request a.body (Err (errors.Refused fault message))

-- the request gives a slot nothing, by the fault that is told first
pub record IsRefused {X : Type 0} {F : X → Type 0} (m : Meanings X F) (e : ApiEndpoint X F) (a : Asked)
    (fault : Fault) (response : Response) : Type 0 where
  pub message : List ℕ
  pub told : given_at m e a ≡ Err (errors.Refused fault message)
  pub cause : HasRefusalCause m e a fault message
  pub refuses : Refuses m e a.call (bad_request None message) response

-- a call on the body failed
pub record HasFaultyBody {X : Type 0} {F : X → Type 0} (m : Meanings X F) (e : ApiEndpoint X F) (a : Asked)
    (response : Response) : Type 0 where
  pub reading : AsksForBody (shape_at m e).table (shape_at m e).slots a.call.request
  pub can_fail : can_fail_of a.body ≡ true
  pub refuses : Refuses m e a.call (flaw_error flaw.Fault) response

-- the content passes the limit with one of the frames of the budget and one more
pub record HasLargeBody {X : Type 0} {F : X → Type 0} (m : Meanings X F) (e : ApiEndpoint X F) (a : Asked)
    (sum : ℕ) (response : Response) : Type 0 where
  pub reading : AsksForBody (shape_at m e).table (shape_at m e).slots a.call.request
  pub told : given_at m e a ≡ Err (errors.BodyTooLarge sum)
  pub cause : IsTooLarge (limit_at e a.call.config) a.budget (frames_of a.body) sum
  pub refuses : Refuses m e a.call (flaw_error (flaw.TooLarge (limit_at e a.call.config))) response

-- there are more frames than the budget, and the content so far is within the limit
pub record HasManyFrames {X : Type 0} {F : X → Type 0} (m : Meanings X F) (e : ApiEndpoint X F) (a : Asked)
    (count : ℕ) : Type 0 where
  pub reading : AsksForBody (shape_at m e).table (shape_at m e).slots a.call.request
  pub told : given_at m e a ≡ Err (errors.FrameBudget count)
  pub cause : IsOverBudget (limit_at e a.call.config) a.budget (frames_of a.body) count

-- What an endpoint answers a request that reaches it. All rows but that of a fault and that of memory are told by what
-- the request and the frames call for (`given_at`), so each request is answered by one of them. Want of memory leaves
-- the store as it was, or as after a reply that was lost.
abbrev pub EndpointAnswers : {X : Type 0} {F : X → Type 0} → Meanings X F → ApiEndpoint X F → Asked
    → Result Exchange ExchangeError → Tables → Type 0
EndpointAnswers m e a (Ok (Handled args reply response)) after = IsHandled m e a args reply response after
EndpointAnswers m e a (Ok (Refused fault response)) after = IsRefused m e a fault response × (after ≡ a.call.store)
EndpointAnswers m e a (Err (failed.BodyFault response)) after =
    HasFaultyBody m e a response × (after ≡ a.call.store)
EndpointAnswers m e a (Err (failed.BodyTooLarge sum response)) after =
    HasLargeBody m e a sum response × (after ≡ a.call.store)
EndpointAnswers m e a (Err (failed.FrameBudget count)) after = HasManyFrames m e a count × (after ≡ a.call.store)
EndpointAnswers m e a (Err failed.OutOfMemory) after = (after ≡ a.call.store) ⊎ IsLost m e a after
EndpointAnswers m e a (Err failed.BadRequestId) after = ⊥
EndpointAnswers m e a (Err failed.NoSuchOperation) after = ⊥
EndpointAnswers m e a (Err failed.WrongVariables) after = ⊥

-- a request reaches an endpoint, which answers it so
abbrev pub ReachedAnswers : {X : Type 0} {F : X → Type 0} → Meanings X F → List (ApiEndpoint X F) → Asked
    → Result Exchange ExchangeError → Tables → Type 0
ReachedAnswers m endpoints a outcome after =
    (e : ApiEndpoint _ _) × Reaches m endpoints a.call.request e × EndpointAnswers m e a outcome after

-- What each outcome of a request says: one row for each. The first three are told wherever they are so, memory or not.
abbrev pub Answers : {X : Type 0} {F : X → Type 0} → Meanings X F → List (ApiEndpoint X F) → Asked
    → Result Exchange ExchangeError → Tables → Type 0
Answers m endpoints a (Err failed.BadRequestId) after =
    IsUnreached m endpoints a.call.request failed.BadRequestId × (after ≡ a.call.store)
Answers m endpoints a (Err failed.NoSuchOperation) after =
    IsUnreached m endpoints a.call.request failed.NoSuchOperation × (after ≡ a.call.store)
Answers m endpoints a (Err failed.WrongVariables) after =
    IsUnreached m endpoints a.call.request failed.WrongVariables × (after ≡ a.call.store)
Answers m endpoints a outcome after = ReachedAnswers m endpoints a outcome after

-- ---- what is touched of the body

-- a request reaches an endpoint with a slot that takes the body, and the other slots are given their arguments
pub record TakesBody {X : Type 0} {F : X → Type 0} (m : Meanings X F) (endpoints : List (ApiEndpoint X F))
    (request : Request) : Type 0 where
  pub endpoint : ApiEndpoint X F
  pub reaches : Reaches m endpoints request endpoint
  pub takes : IsTrue (list_any takes_body (shape_at m endpoint).slots)
  pub shared : IsOk (shared_told (shape_at m endpoint).table (shape_at m endpoint).slots request)
