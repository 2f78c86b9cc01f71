-- Which outcomes there are, and that a valid request is handled exactly where it denotes arguments, and else refused.
use Rattle.std.specs.Prelude.{◌≡◌, ◌↔◌, ⊤, IsOk, List, Some, Result}
use Rattle.std.specs.declared.result.Result.TheVariants.{Ok, Err}
use Rattle.handler_shapes.specs.declared.arguments.Arg.{Arg}
use Rattle.api_extract.specs.Denotes.{Denotes}
use Rattle.api_extract.specs.Extraction.{AsksForBody, IsWithin}
use Rattle.api_declarations.specs.Values.{DeclarationValue}
use Rattle.api_endpoints.specs.Endpoints.{Meanings, declaration_of}
use Rattle.api_endpoints.specs.declared.endpoint.ApiEndpoint.{ApiEndpoint}
use Rattle.endpoint_answers.specs.Exchanges.{Asked, HasId, HasVariables, named_by, sent_by, terms_for}
use Rattle.endpoint_answers.specs.declared.outcome.Exchange.{Exchange}
use Rattle.endpoint_answers.specs.declared.outcome.Exchange.TheVariants.{Handled, Refused}
use Rattle.endpoint_answers.specs.declared.outcome.ExchangeError.{ExchangeError}
use Rattle.endpoint_answers.specs.declared.outcome.ExchangeError.TheVariants as failed

-- ---- requests

-- A valid request to an endpoint: its id may stand in a header, its variables are those of the endpoint's template, and
-- its body, where a slot reads it, has no more frames than the budget, and no more content than the limit.
pub record IsValid (d : DeclarationValue) (a : Asked) : Type 0 where
  pub id : HasId a.call.request
  pub variables : HasVariables d a.call.request
  pub within : AsksForBody d.shape.table d.shape.slots a.call.request → IsWithin (terms_for d a) a.body

-- it denotes arguments for the slots of an endpoint
abbrev pub IsDenoting : DeclarationValue → Asked → Type 0
IsDenoting d a = (args : List Arg) × Denotes (terms_for d a) d.shape.slots (sent_by a) a.body args

-- ---- outcomes

-- the handler was called on the request, and its reply is sent
abbrev pub WasHandled : Result Exchange ExchangeError → Type 0
WasHandled (Ok (Handled args reply response)) = ⊤
WasHandled (Ok (Refused fault response)) = ⊥
WasHandled (Err error) = ⊥

-- a call on the body failed
abbrev pub IsFault : ExchangeError → Type 0
IsFault (failed.BodyFault response) = ⊤
IsFault _ = ⊥

-- a call on the body failed, or memory ran out
abbrev pub IsOutcomeCutShort : Result Exchange ExchangeError → Type 0
IsOutcomeCutShort (Ok exchange) = ⊥
IsOutcomeCutShort (Err failed.OutOfMemory) = ⊤
IsOutcomeCutShort (Err (failed.BodyFault response)) = ⊤
IsOutcomeCutShort (Err _) = ⊥

-- Whatever endpoint a valid request names, hidden or not, and with a page token or without, it is handled exactly where
-- it denotes arguments for the slots of that endpoint, unless it was cut short.
abbrev pub IsHandledAsDenoted : {X : Type 0} {F : X → Type 0} → Meanings X F → List (ApiEndpoint X F) → Asked
    → Result Exchange ExchangeError → Type 0
IsHandledAsDenoted m endpoints a outcome = (e : ApiEndpoint _ _) → named_by m endpoints a.call.request ≡ Some e
    → IsValid (declaration_of m e) a → ¬ IsOutcomeCutShort outcome
    → WasHandled outcome ↔ IsDenoting (declaration_of m e) a

-- whatever endpoint a valid request names, it is handled or refused, unless it was cut short
abbrev pub IsHandledOrRefused : {X : Type 0} {F : X → Type 0} → Meanings X F → List (ApiEndpoint X F) → Asked
    → Result Exchange ExchangeError → Type 0
IsHandledOrRefused m endpoints a outcome = (e : ApiEndpoint _ _) → named_by m endpoints a.call.request ≡ Some e
    → IsValid (declaration_of m e) a → ¬ IsOutcomeCutShort outcome → IsOk outcome
