-- What outcomes tell of the frames of a body that a slot reads.
use Rattle.std.proofs.Common.{◌≡◌, ℕ, List, Option, sym, subst}
use Rattle.std.specs.declared.result.Result.{Result}
use Rattle.std.specs.declared.result.Result.TheVariants.{Err}
use Rattle.http_bodies.specs.declared.frame.Frame.{Frame}
use Rattle.api_extract.specs.Denotes.{GivenArgs}
use Rattle.api_extract.specs.Extraction.{AsksForBody, ReadsFor}
use Rattle.api_endpoints.specs.Endpoints.{Meanings, shape_at}
use Rattle.api_endpoints.specs.declared.endpoint.ApiEndpoint.{ApiEndpoint}
use Rattle.endpoint_answers.specs.BodyReads.{BodyReadFor, ReadsBodyFor, TellsAsGiven}
use Rattle.endpoint_answers.specs.Exchanges.{Call, IsUnreached, Reaches, limit_at}
use Rattle.endpoint_answers.specs.declared.outcome.Exchange.{Exchange}
use Rattle.endpoint_answers.specs.declared.outcome.ExchangeError.{ExchangeError}
use Rattle.endpoint_answers.specs.declared.outcome.ExchangeError.TheVariants as failed
use Rattle.api_exchanges.proofs.Reached.{reached_once}

module _ {X : Type 0} {F : X → Type 0} (m : Meanings X F) (endpoints : List (ApiEndpoint X F)) (call : Call)
    (budget : ℕ) (old new : Option (List Frame)) where
  -- nothing is told of the frames of a body that is not asked for
  pub unreached_reads : (error : ExchangeError) → IsUnreached m endpoints call.request error
      → ReadsBodyFor m endpoints call budget old new (Err error)
  unreached_reads failed.BadRequestId is = λ e reaches asks. tt
  unreached_reads failed.NoSuchOperation is = λ e reaches asks. tt
  unreached_reads failed.WrongVariables is = λ e reaches asks. tt
  unreached_reads failed.OutOfMemory is = λ e reaches asks. tt
  unreached_reads (failed.BodyFault response) is = absurd is
  unreached_reads (failed.BodyTooLarge sum response) is = absurd is
  unreached_reads (failed.FrameBudget count) is = absurd is

  -- the endpoint that is reached tells it
  pub reached_reads : (e : ApiEndpoint X F) (given : GivenArgs) (outcome : Result Exchange ExchangeError)
      → Reaches m endpoints call.request e
      → (AsksForBody (shape_at m e).table (shape_at m e).slots call.request
      → ReadsFor (limit_at e call.config) budget old new given)
      → TellsAsGiven given outcome → ReadsBodyFor m endpoints call budget old new outcome
  reached_reads e given outcome reaches reads tells = λ other there asks.
      let same : other ≡ e = reached_once m endpoints call.request other e there reaches in
      let here =
      subst (λ (x : ApiEndpoint X F). AsksForBody (shape_at m x).table (shape_at m x).slots call.request) same asks in
      subst (λ (x : ApiEndpoint X F). BodyReadFor (limit_at x call.config) budget old new outcome) (sym same)
      (tells (limit_at e call.config) budget old new (reads here))
