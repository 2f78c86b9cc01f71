-- What the document of an API says of the requests that it answers.
use Rattle.std.specs.Prelude.{◌≡◌, ◌↔◌, List, Some, Result}
use Rattle.std.specs.declared.result.Result.TheVariants.{Ok}
use Rattle.schema_values.specs.declared.json_value.Json.{Json}
use Rattle.semver.specs.Parse.{Parts}
use Rattle.handler_shapes.specs.declared.arguments.Arg.{Arg}
use Rattle.http_status.specs.declared.response.Response.{Response}
use Rattle.tree_store.specs.Tables.{Tables}
use Rattle.api_respond.specs.declared.reply.Reply.{Reply}
use Rattle.api_declarations.specs.Serving.{Serves}
use Rattle.api_declarations.specs.Values.{DeclarationValue}
use Rattle.api_documents.specs.Lists.{IsListed}
use Rattle.api_agreement.specs.Agreement.{IsAdmitted, SendsNoToken}
use Rattle.api_endpoints.specs.Endpoints.{Meanings, declaration_of, declarations_of}
use Rattle.api_endpoints.specs.declared.endpoint.ApiEndpoint.{ApiEndpoint}
use Rattle.endpoint_answers.specs.Denoting.{IsDenoting, IsOutcomeCutShort, IsValid, WasHandled}
use Rattle.endpoint_answers.specs.Exchanges.{Asked, IsHandled, named_by, sent_by}
use Rattle.endpoint_answers.specs.declared.outcome.Exchange.{Exchange}
use Rattle.endpoint_answers.specs.declared.outcome.Exchange.TheVariants.{Handled}
use Rattle.endpoint_answers.specs.declared.outcome.ExchangeError.{ExchangeError}

-- The request names the endpoint of which this is said. Where it is handled, the response encodes a reply that the
-- endpoint's handler allows on the arguments that the request denotes.
pub record IsAnsweredBy {X : Type 0} {F : X → Type 0} (m : Meanings X F) (endpoints : List (ApiEndpoint X F))
    (d : DeclarationValue) (a : Asked) (outcome : Result Exchange ExchangeError) (after : Tables) : Type 0 where
  pub endpoint : ApiEndpoint X F
  pub named : named_by m endpoints a.call.request ≡ Some endpoint
  pub declared : declaration_of m endpoint ≡ d
  pub handled : (args : List Arg) (reply : Reply) (response : Response) → outcome ≡ Ok (Handled args reply response)
      → IsHandled m endpoint a args reply response after

-- A request to an endpoint that the document lists is handled exactly where the document admits it, which is exactly
-- where it denotes arguments for the slots of the endpoint; and it is this endpoint that answers it.
pub record IsHandledAsAdmitted {X : Type 0} {F : X → Type 0} (m : Meanings X F) (endpoints : List (ApiEndpoint X F))
    (document : Json) (d : DeclarationValue) (a : Asked) (outcome : Result Exchange ExchangeError) (after : Tables)
    : Type 0 where
  pub admitted : WasHandled outcome ↔ IsAdmitted document d (sent_by a)
  pub denoted : WasHandled outcome ↔ IsDenoting d a
  pub answered : IsAnsweredBy m endpoints d a outcome after

-- a valid request, without a page token, to an operation of the document of a version; the operation is an endpoint's
pub record IsValidFor (version : Parts) (ds : List DeclarationValue) (d : DeclarationValue) (a : Asked) : Type 0 where
  pub listed : IsListed version ds d
  pub serves : Serves version a.call.request.info.method a.call.request.template d
  pub at_version : a.call.request.version ≡ version
  pub valid : IsValid d a
  pub no_token : SendsNoToken d (sent_by a)

-- what is answered follows the document of a version, unless it was cut short
abbrev pub FollowsDocument : {X : Type 0} {F : X → Type 0} → Meanings X F → List (ApiEndpoint X F) → Json → Parts
    → Asked → Result Exchange ExchangeError → Tables → Type 0
FollowsDocument m endpoints document version a outcome after = (d : DeclarationValue)
    → IsValidFor version (declarations_of m endpoints) d a → ¬ IsOutcomeCutShort outcome
    → IsHandledAsAdmitted m endpoints document d a outcome after
