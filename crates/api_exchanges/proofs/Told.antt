-- A valid request is handled or refused, unless it was cut short.
use Rattle.std.proofs.Common.{◌≡◌, ℕ, ◌≤◌, List, Some, length, IsOk, refl, sym, ◌∙◌, subst}
use Rattle.std.specs.declared.result.Result.{Result}
use Rattle.std.specs.declared.result.Result.TheVariants.{Ok, Err}
use Rattle.http_bodies.specs.Bodies.{frames_of}
use Rattle.http_bodies.specs.Frames.{all_data}
use Rattle.http_bodies.specs.declared.frame.Frame.{Frame}
use Rattle.body_reading.specs.Whole.{HasCause}
use Rattle.body_reading.specs.declared.whole.BodyError.{BodyError}
use Rattle.body_reading.specs.declared.whole.BodyError.TheVariants as body
use Rattle.body_reading.proofs.CallerLemmas.{cause_whole, whole_read}
use Rattle.tree_store.specs.Tables.{Tables}
use Rattle.api_endpoints.specs.Endpoints.{Meanings, declaration_of}
use Rattle.api_endpoints.specs.declared.endpoint.ApiEndpoint.{ApiEndpoint}
use Rattle.endpoint_answers.specs.Denoting.{IsHandledOrRefused, IsOutcomeCutShort, IsValid}
use Rattle.endpoint_answers.specs.Exchanges.{Answers, Asked, HasLargeBody, HasManyFrames, HasVariables, limit_at, named_by}
use Rattle.endpoint_answers.specs.declared.outcome.Exchange.{Exchange}
use Rattle.endpoint_answers.specs.declared.outcome.ExchangeError.{ExchangeError}
use Rattle.endpoint_answers.specs.declared.outcome.ExchangeError.TheVariants as failed
use Rattle.api_exchanges.proofs.Reached.{none_named}

-- frames within a budget, whose content is within a limit, have no cause for an error
no_cause : (limit budget : ℕ) (frames : List Frame) (error : BodyError) → length frames ≤ budget
    → length (all_data frames) ≤ limit → ¬ HasCause limit budget frames (Err error)
no_cause limit budget frames error few small cause =
    let clash : Err error ≡ Ok (all_data frames) =
    cause_whole limit budget frames (Err error) cause ∙ whole_read limit budget frames few small in
    cc clash

module _ {X : Type 0} {F : X → Type 0} (m : Meanings X F) (endpoints : List (ApiEndpoint X F)) (a : Asked)
    (e : ApiEndpoint X F) (named : named_by m endpoints a.call.request ≡ Some e)
    (valid : IsValid (declaration_of m e) a) where
  -- what holds of the endpoint that is named holds of this one
  at_named : (P : ApiEndpoint X F → Type 0) (other : ApiEndpoint X F)
      → named_by m endpoints a.call.request ≡ Some other → P other → P e
  at_named P other is holds = let both : Some other ≡ Some e = sym is ∙ named in subst P (cc both) holds

  by_outcome : (outcome : Result Exchange ExchangeError) (after : Tables) → Answers m endpoints a outcome after
      → ¬ IsOutcomeCutShort outcome → IsOk outcome
  by_outcome (Ok exchange) after answers whole = refl
  by_outcome (Err failed.BadRequestId) after answers whole = absurd (answers.0 valid.id)
  by_outcome (Err failed.NoSuchOperation) after answers whole =
      absurd (none_named m endpoints a.call.request e answers.0.none named)
  by_outcome (Err failed.WrongVariables) after answers whole =
      absurd
      (at_named (λ x. ¬ HasVariables (declaration_of m x) a.call.request) answers.0.endpoint answers.0.named
      answers.0.other valid.variables)
  by_outcome (Err failed.OutOfMemory) after answers whole = absurd (whole tt)
  by_outcome (Err (failed.BodyFault response)) after answers whole = absurd (whole tt)
  by_outcome (Err (failed.BodyTooLarge sum response)) after answers whole =
      let large = at_named (λ x. HasLargeBody m x a sum response) answers.0 answers.1.named answers.2.0 in
      let within = valid.within large.reading in
      absurd
      (no_cause (limit_at e a.call.config) a.budget (frames_of a.body) (body.BodyTooLarge sum) within.frames
      within.content large.cause)
  by_outcome (Err (failed.FrameBudget count)) after answers whole =
      let many = at_named (λ x. HasManyFrames m x a count) answers.0 answers.1.named answers.2.0 in
      let within = valid.within many.reading in
      absurd
      (no_cause (limit_at e a.call.config) a.budget (frames_of a.body) (body.FrameBudget count) within.frames
      within.content many.cause)

-- whatever endpoint it names
pub handled_or_refused : {X : Type 0} {F : X → Type 0} (m : Meanings X F) (endpoints : List (ApiEndpoint X F))
    (a : Asked) (outcome : Result Exchange ExchangeError) (after : Tables) → Answers m endpoints a outcome after
    → IsHandledOrRefused m endpoints a outcome
handled_or_refused m endpoints a outcome after answers =
    λ e named valid whole. by_outcome m endpoints a e named valid outcome after answers whole
