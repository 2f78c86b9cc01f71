-- What the slots of a handler were given, by what came of a body.
use Rattle.std.proofs.Common.{◌≡◌, ◌⊎◌, ◌≤◌, ◌+◌, inl, ℕ, true, [], length, refl}
use Rattle.std.specs.Prelude.{IsErrAnd, IsErrOf, OnOk}
use Rattle.std.specs.List.{list_any}
use Rattle.std.specs.declared.result.Result.TheVariants.{Ok, Err}
use Rattle.http_bodies.specs.Bodies.{BodyState, failing, frames_of}
use Rattle.http_bodies.specs.Frames.{SourceState}
use Rattle.http_bodies.specs.Memory.{fresh_frames}
use Rattle.http_bodies.specs.Sources.{TakesFrames}
use Rattle.body_reading.specs.Gathered.{GathersInto}
use Rattle.request_parts.specs.declared.content_type.ApiEndpointBodyContentType.{ApiEndpointBodyContentType}
use Rattle.handler_shapes.specs.declared.shape.HandlerShape.{HandlerShape}
use Rattle.handler_shapes.specs.BodySlots.{BodyComesLast}
use Rattle.api_extract.specs.declared.extract_error.ExtractError.{ExtractError}
use Rattle.api_extract.specs.declared.extract_error.ExtractError.TheVariants as errors
use Rattle.api_extract.specs.Denotes.{GivenArgs, terms}
use Rattle.api_extract.specs.Extraction.{AsksForBody, ComesFrom, IsOfReading, shared_told, takes_stream}
use Rattle.endpoint_answers.specs.Answering.{IsGivenBy}
use Rattle.endpoint_answers.specs.Exchanges.{Call, asked}
use Rattle.api_exchanges.proofs.Causes.{AnswersHaveCauses, caused_by}

-- What came of a source, as a body: it can fail where a call on the source failed.
pub record IsGivenFrom (shape : HandlerShape) (kind : ApiEndpointBodyContentType) (limit : ℕ) (call : Call)
    (budget : ℕ) (old new : SourceState) (given : GivenArgs) : Type 0 where
  pub body : BodyState
  pub taken : TakesFrames old.left (frames_of body) new.left
  pub most : length (frames_of body) ≤ budget + 1
  pub is_given : IsGivenBy shape kind limit (asked call body budget) given
  pub gathers : list_any takes_stream shape.slots ≡ true → OnOk given (GathersInto budget old new body)

module _ (shape : HandlerShape) (kind : ApiEndpointBodyContentType) (limit : ℕ) (call : Call) (budget : ℕ)
    (old new : SourceState) (causes : AnswersHaveCauses) (last : BodyComesLast shape.slots) where
  abbrev Came : GivenArgs → Type 0
  Came given = ComesFrom (terms shape.table kind limit budget) shape.slots call.request old new given

  abbrev Reading : GivenArgs → Type 0
  Reading given = IsErrAnd given IsOfReading → AsksForBody shape.table shape.slots call.request

  abbrev Early : GivenArgs → Type 0
  Early given = (error : ExtractError) → shared_told shape.table shape.slots call.request ≡ Err error
      → (given ≡ Err error) ⊎ (given ≡ Err errors.OutOfMemory)

  no_fault : (given : GivenArgs) → ¬ IsErrOf given errors.BodyFault → Came given → Early given → Reading given
      → IsGivenFrom shape kind limit call budget old new given
  no_fault given none came early reading = record {
    body = came.comes.body;
    taken = came.comes.taken;
    most = came.comes.most;
    is_given = record {
      comes = came.comes.answer;
      caused =
          caused_by causes (terms shape.table kind limit budget) shape.slots call.request came.comes.body last given
          came.comes.answer;
      early = early;
      reading = reading;
      fails = λ fault. absurd (none fault);
    };
    gathers = came.comes.gathers;
  }

  pub given_from : (given : GivenArgs) → Came given → Early given → Reading given
      → IsGivenFrom shape kind limit call budget old new given
  given_from (Ok args) came early reading = no_fault (Ok args) (λ is. cc is) came early reading
  given_from (Err (errors.Refused fault message)) came early reading =
      no_fault (Err (errors.Refused fault message)) (λ is. cc is) came early reading
  given_from (Err errors.BodyFault) came early reading = record {
    body = failing (fresh_frames (frames_of came.comes.body) []);
    taken = came.comes.taken;
    most = came.comes.most;
    is_given =
        record { comes = inl tt; caused = inl tt; early = early; reading = reading; fails = λ fault. refl };
    gathers = λ streams. tt;
  }
  given_from (Err (errors.BodyTooLarge sum)) came early reading =
      no_fault (Err (errors.BodyTooLarge sum)) (λ is. cc is) came early reading
  given_from (Err (errors.FrameBudget count)) came early reading =
      no_fault (Err (errors.FrameBudget count)) (λ is. cc is) came early reading
  given_from (Err errors.OutOfMemory) came early reading =
      no_fault (Err errors.OutOfMemory) (λ is. cc is) came early reading
