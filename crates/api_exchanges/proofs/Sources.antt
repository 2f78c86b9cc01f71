-- What a request is answered whose body comes of a source.
use Rattle.std.proofs.Common.{◌≡◌, ◌⊎◌, inl, inr, ℕ, List, [], refl, arith, subst}
use Rattle.std.specs.Prelude.{IsOk, IsTrue, OnOk}
use Rattle.std.specs.List.{list_any}
use Rattle.std.specs.declared.result.Result.{Result}
use Rattle.std.specs.declared.result.Result.TheVariants.{Ok, Err}
use Rattle.http_bodies.specs.Bodies.{never_failing}
use Rattle.http_bodies.specs.Frames.{SourceState}
use Rattle.body_reading.specs.Gathered.{GathersInto}
use Rattle.tree_store.specs.Tables.{Tables}
use Rattle.api_extract.specs.Denotes.{GivenArgs}
use Rattle.api_extract.specs.Extraction.{takes_stream}
use Rattle.api_extract.proofs.CallerLemmas.{none_came}
use Rattle.api_endpoints.specs.Endpoints.{Meanings, shape_at}
use Rattle.api_endpoints.specs.declared.endpoint.ApiEndpoint.{ApiEndpoint}
use Rattle.endpoint_answers.specs.Answering.{IsGiven}
use Rattle.endpoint_answers.specs.Denoting.{IsFault, WasHandled}
use Rattle.endpoint_answers.specs.Exchanges.{AreServable, Asked, Call, EndpointAnswers, IsUnreached, Reaches, asked}
use Rattle.endpoint_answers.specs.Exchanges.{limit_at}
use Rattle.api_exchanges.specs.SourceExchanges.{AnswersFrom, StreamsBody}
use Rattle.endpoint_answers.specs.declared.outcome.Exchange.{Exchange}
use Rattle.endpoint_answers.specs.declared.outcome.ExchangeError.{ExchangeError}
use Rattle.endpoint_answers.specs.declared.outcome.ExchangeError.TheVariants as failed
use Rattle.api_exchanges.proofs.Causes.{AnswersHaveCauses}
use Rattle.api_exchanges.proofs.Denoted.{handled_as_denoted}
use Rattle.api_exchanges.proofs.Given.{IsGivenFrom}
use Rattle.api_exchanges.proofs.Reached.{reached_answers, reached_once, unreached_answers}
use Rattle.api_exchanges.proofs.Told.{handled_or_refused}

-- a fact of a success
pub ok_part : {T E P : Type 0} (r : Result T E) → IsOk r → OnOk r P → P
ok_part (Ok x) ok fact = fact
ok_part (Err error) ok fact = absurd (cc ok)

module _ {X : Type 0} {F : X → Type 0} (m : Meanings X F) (endpoints : List (ApiEndpoint X F)) where
  -- what is told before a body is touched is no fault of it
  pub no_fault_yet : (call : Call) (error : ExchangeError) → IsUnreached m endpoints call.request error
      → ¬ IsFault error
  no_fault_yet call failed.BadRequestId is fault = fault
  no_fault_yet call failed.NoSuchOperation is fault = fault
  no_fault_yet call failed.WrongVariables is fault = fault
  no_fault_yet call failed.OutOfMemory is fault = fault
  no_fault_yet call (failed.BodyFault response) is fault = is
  no_fault_yet call (failed.BodyTooLarge sum response) is fault = fault
  no_fault_yet call (failed.FrameBudget count) is fault = fault

  module _ (call : Call) (budget : ℕ) (causes : AnswersHaveCauses) (servable : AreServable m endpoints)
      (old : SourceState) where
    -- the source is not touched
    pub unreached_from : (error : ExchangeError) → IsUnreached m endpoints call.request error
        → AnswersFrom m endpoints call budget old old (Err error) call.store
    unreached_from error is =
        let a = asked call (never_failing []) budget in
        let answers = unreached_answers m endpoints a error is in
        record {
          body = never_failing [];
          taken = none_came old.left;
          most = omega arith;
          answers = answers;
          handled = handled_as_denoted m endpoints a causes servable (Err error) call.store answers;
          told = handled_or_refused m endpoints a (Err error) call.store answers;
          gathers = λ streams was. absurd was;
          changed = λ streams. inl refl;
        }

    -- the endpoint answers what came of the source
    pub reached_from : (new : SourceState) (e : ApiEndpoint X F) (given : GivenArgs)
        (outcome : Result Exchange ExchangeError) (after : Tables) → Reaches m endpoints call.request e
        → IsGivenFrom (shape_at m e) e.body_content_type (limit_at e call.config) call budget old new given
        → ((a : Asked) → a.call ≡ call → IsGiven m e a given → EndpointAnswers m e a outcome after)
        → (WasHandled outcome → IsOk given) → (after ≡ call.store) ⊎ IsOk given
        → AnswersFrom m endpoints call budget old new outcome after
    reached_from new e given outcome after reaches from answered was_given kept =
        let a = asked call from.body budget in
        let answers = reached_answers m endpoints a e outcome after reaches (answered a refl from.is_given) in
        let gathered : StreamsBody m endpoints call.request → OnOk given (GathersInto budget old new from.body) =
        λ streams.
        let same = reached_once m endpoints call.request streams.0 e streams.1 reaches in
        from.gathers
        (subst (λ (e : ApiEndpoint X F). IsTrue (list_any takes_stream (shape_at m e).slots)) same streams.2) in
        record {
          body = from.body;
          taken = from.taken;
          most = from.most;
          answers = answers;
          handled = handled_as_denoted m endpoints a causes servable outcome after answers;
          told = handled_or_refused m endpoints a outcome after answers;
          gathers = λ streams was. ok_part given (was_given was) (gathered streams);
          changed = λ streams.
              elim kept [
                | inl same ↦ inl same
                | inr ok ↦ inr (ok_part given ok (gathered streams))
              ];
        }
