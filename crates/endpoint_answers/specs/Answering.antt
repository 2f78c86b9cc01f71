-- What is known of what a request gives the slots of an endpoint's handler, when the endpoint answers it.
use Rattle.std.specs.Prelude.{◌≡◌, ◌⊎◌, ℕ, true, IsErrAnd, IsErrOf, List}
use Rattle.std.specs.declared.result.Result.TheVariants.{Err}
use Rattle.http_bodies.specs.Bodies.{can_fail_of}
use Rattle.tree_store.specs.Tables.{Tables}
use Rattle.request_parts.specs.declared.content_type.ApiEndpointBodyContentType.{ApiEndpointBodyContentType}
use Rattle.handler_shapes.specs.declared.arguments.Arg.{Arg}
use Rattle.handler_shapes.specs.declared.shape.HandlerShape.{HandlerShape}
use Rattle.api_extract.specs.Causes.{HasAnswerCause}
use Rattle.api_extract.specs.Denotes.{GivenArgs, terms}
use Rattle.api_extract.specs.Extraction.{AsksForBody, ComesTo, IsCutShort, IsOfReading, extracted, shared_told}
use Rattle.api_extract.specs.declared.extract_error.ExtractError.{ExtractError}
use Rattle.api_extract.specs.declared.extract_error.ExtractError.TheVariants as errors
use Rattle.api_endpoints.specs.Endpoints.{Meanings, shape_at}
use Rattle.api_endpoints.specs.declared.endpoint.ApiEndpoint.{ApiEndpoint}
use Rattle.endpoint_answers.specs.Exchanges.{Asked, Call, IsReplied, limit_at}
use Rattle.endpoint_answers.specs.declared.outcome.Exchange.{Exchange}
use Rattle.endpoint_answers.specs.declared.outcome.Exchange.TheVariants.{Handled, Refused}

-- The slots of a shape were given what the request calls for, which has its cause, unless a call on the body failed or
-- memory ran out. What path, query or headers refuse is told before the body is touched, and an error of reading the
-- body comes only where a slot reads it.
pub record IsGivenBy (shape : HandlerShape) (kind : ApiEndpointBodyContentType) (limit : ℕ) (a : Asked)
    (given : GivenArgs) : Type 0 where
  pub comes : ComesTo given (extracted (terms shape.table kind limit a.budget) shape.slots a.call.request a.body)
  pub caused : IsCutShort given
      ⊎ HasAnswerCause (terms shape.table kind limit a.budget) shape.slots a.call.request a.body given
  pub early : (error : ExtractError) → shared_told shape.table shape.slots a.call.request ≡ Err error
      → (given ≡ Err error) ⊎ (given ≡ Err errors.OutOfMemory)
  pub reading : IsErrAnd given IsOfReading → AsksForBody shape.table shape.slots a.call.request
  pub fails : IsErrOf given errors.BodyFault → can_fail_of a.body ≡ true

-- the same of the slots of an endpoint's handler
abbrev pub IsGiven : {X : Type 0} {F : X → Type 0} → Meanings X F → ApiEndpoint X F → Asked → GivenArgs → Type 0
IsGiven m e a given = IsGivenBy (shape_at m e) e.body_content_type (limit_at e a.call.config) a given

-- the handler was called on some arguments, and its reply is sent
abbrev pub IsHandledWith : {X : Type 0} {F : X → Type 0} → Meanings X F → ApiEndpoint X F → Call → List Arg → Exchange
    → Tables → Type 0
IsHandledWith m e call args (Handled stayed left response) after = IsReplied m e call args stayed left response after
IsHandledWith m e call args (Refused fault response) after = ⊥
