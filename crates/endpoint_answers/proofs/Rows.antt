-- The rows of what an endpoint answers, by what the slots of its handler are given.
use Rattle.std.proofs.Common.{◌≡◌, ◌⊎◌, inl, inr, ℕ, List, None, refl, sym, ap, ◌∙◌, subst}
use Rattle.std.specs.Prelude.{is_ok}
use Rattle.std.specs.declared.result.Result.TheVariants.{Ok, Err}
use Rattle.body_reading.specs.Flaws.{flaw_error}
use Rattle.body_reading.specs.declared.flaw.BodyFlaw.TheVariants as flaw
use Rattle.tree_store.specs.Tables.{Tables}
use Rattle.typed_values.specs.declared.fault.Fault.{Fault}
use Rattle.http_status.specs.Errors.{bad_request}
use Rattle.http_status.specs.declared.error.HttpError.{HttpError}
use Rattle.http_status.specs.declared.response.Response.{Response}
use Rattle.handler_shapes.specs.declared.arguments.Arg.{Arg}
use Rattle.api_extract.specs.declared.extract_error.ExtractError.TheVariants as errors
use Rattle.api_extract.specs.Causes.{HasAnswerCause}
use Rattle.api_extract.specs.Denotes.{GivenArgs}
use Rattle.api_extract.specs.Extraction.{ComesTo, IsCutShort, shared_told}
use Rattle.api_respond.specs.Encodes.{RefusalEncodes}
use Rattle.api_respond.specs.declared.reply.Reply.{Reply}
use Rattle.api_endpoints.specs.Endpoints.{Meanings, shape_at, turns_at}
use Rattle.api_endpoints.specs.declared.endpoint.ApiEndpoint.{ApiEndpoint}
use Rattle.endpoint_answers.specs.Answering.{IsGiven, IsHandledWith}
use Rattle.endpoint_answers.specs.Exchanges.{Asked, Call, EndpointAnswers, HasRefusalCause, IsGivenArgs, IsReplied}
use Rattle.endpoint_answers.specs.Exchanges.{MayReply, Refuses, given_at, limit_at, terms_at}
use Rattle.endpoint_answers.specs.declared.outcome.Exchange.{Exchange}
use Rattle.endpoint_answers.specs.declared.outcome.Exchange.TheVariants.{Handled, Refused}
use Rattle.endpoint_answers.specs.declared.outcome.ExchangeError.TheVariants as failed

-- what was not cut short is what is called for
exactly : (given exact : GivenArgs) → ComesTo given exact → ¬ IsCutShort given → exact ≡ given
exactly given exact (inl cut) whole = absurd (whole cut)
exactly given exact (inr is) whole = sym is

module _ {X : Type 0} {F : X → Type 0} (m : Meanings X F) (e : ApiEndpoint X F) (a : Asked) where
  -- what was not cut short has its cause
  whole_caused : (given : GivenArgs) → IsGiven m e a given → ¬ IsCutShort given
      → HasAnswerCause (terms_at m e a) (shape_at m e).slots a.call.request a.body given
  whole_caused given is whole =
      elim is.caused [
        | inl cut ↦ absurd (whole cut)
        | inr cause ↦ cause
      ]

  given_args : (args : List Arg) → IsGiven m e a (Ok args) → IsGivenArgs m e a args
  given_args args given =
      let cause = whole_caused (Ok args) given (λ cut. cut) in
      record {
        given = exactly (Ok args) (given_at m e a) given.comes (λ cut. cut);
        denoted = cause.told;
        within = cause.within;
      }

  -- the handler was called, and its reply is sent
  pub sent_answers : (call : Call) → a.call ≡ call → (args : List Arg) → IsGiven m e a (Ok args) → (exchange : Exchange)
      (after : Tables) → IsHandledWith m e call args exchange after → EndpointAnswers m e a (Ok exchange) after
  sent_answers call same args given (Handled stayed left response) after sent = record {
    args = args;
    denoted = given_args args given;
    replied = subst (λ (call : Call). IsReplied m e call args stayed left response after) (sym same) sent;
  }
  sent_answers call same args given (Refused fault response) after sent = absurd sent

  -- memory ran out, before the handler was called or behind it
  pub lost_answers : (call : Call) → a.call ≡ call → (args : List Arg) → IsGiven m e a (Ok args) → (after : Tables)
      → (after ≡ call.store) ⊎ ((reply : Reply) × MayReply m e call args reply after)
      → EndpointAnswers m e a (Err failed.OutOfMemory) after
  lost_answers call same args given after (inl kept) = inl (kept ∙ sym (ap (λ (call : Call). call.store) same))
  lost_answers call same args given after (inr lost) = inr (record {
    args = args;
    denoted = given_args args given;
    reply = lost.0;
    may = subst (λ (call : Call). MayReply m e call args lost.0 after) (sym same) lost.1;
  })

  -- what is sent for an error and an id is what is sent for those that they are
  pub refuses_by : (id : List ℕ) → a.call.request.request_id ≡ id → (error other : HttpError) → other ≡ error
      → (response : Response) → RefusalEncodes (shape_at m e) (turns_at m e) other id response
      → Refuses m e a.call error response
  refuses_by id same error other is response encodes =
      subst (λ (id : List ℕ). RefusalEncodes (shape_at m e) (turns_at m e) error id response) (sym same)
      (subst (λ (error : HttpError). RefusalEncodes (shape_at m e) (turns_at m e) error id response) is encodes)

  -- a refusal is of a path, of a query or of headers, or it comes behind them
  refusal_cause : (fault : Fault) (message : List ℕ) → IsGiven m e a (Err (errors.Refused fault message))
      → HasRefusalCause m e a fault message
  refusal_cause fault message given =
      by_shared (shared_told (shape_at m e).table (shape_at m e).slots a.call.request) refl
    where
      by_shared : (shared : GivenArgs)
          → shared_told (shape_at m e).table (shape_at m e).slots a.call.request ≡ shared
          → HasRefusalCause m e a fault message
      by_shared (Ok args) is =
          inr (ap is_ok is, whole_caused (Err (errors.Refused fault message)) given (λ cut. cut))
      by_shared (Err error) is =
          elim (given.early error is) [
            | inl same ↦ inl (is ∙ sym same)
            | inr memory ↦ absurd (cc memory)
          ]

  pub refused_answers : (fault : Fault) (message : List ℕ) (response : Response)
      → IsGiven m e a (Err (errors.Refused fault message)) → Refuses m e a.call (bad_request None message) response
      → EndpointAnswers m e a (Ok (Refused fault response)) a.call.store
  refused_answers fault message response given refuses =
      let told = exactly (Err (errors.Refused fault message)) (given_at m e a) given.comes (λ cut. cut) in
      (record { message = message; told = told; cause = refusal_cause fault message given; refuses = refuses }, refl)

  pub faulty_answers : (response : Response) → IsGiven m e a (Err errors.BodyFault)
      → Refuses m e a.call (flaw_error flaw.Fault) response
      → EndpointAnswers m e a (Err (failed.BodyFault response)) a.call.store
  faulty_answers response given refuses =
      (record { reading = given.reading tt; can_fail = given.fails refl; refuses = refuses }, refl)

  pub large_answers : (sum : ℕ) (response : Response) → IsGiven m e a (Err (errors.BodyTooLarge sum))
      → Refuses m e a.call (flaw_error (flaw.TooLarge (limit_at e a.call.config))) response
      → EndpointAnswers m e a (Err (failed.BodyTooLarge sum response)) a.call.store
  large_answers sum response given refuses =
      let told = exactly (Err (errors.BodyTooLarge sum)) (given_at m e a) given.comes (λ cut. cut) in
      let cause = whole_caused (Err (errors.BodyTooLarge sum)) given (λ cut. cut) in
      (record { reading = cause.0; told = told; cause = cause.1; refuses = refuses }, refl)

  pub many_answers : (count : ℕ) → IsGiven m e a (Err (errors.FrameBudget count))
      → EndpointAnswers m e a (Err (failed.FrameBudget count)) a.call.store
  many_answers count given =
      let told = exactly (Err (errors.FrameBudget count)) (given_at m e a) given.comes (λ cut. cut) in
      let cause = whole_caused (Err (errors.FrameBudget count)) given (λ cut. cut) in
      (record { reading = cause.0; told = told; cause = cause.1 }, refl)
