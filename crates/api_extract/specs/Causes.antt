-- What a request and the frames of its body have to be for each answer on them, where no call on the body fails and
-- memory lasts. Path, query and headers are asked first; then the size of a body that a slot reads, and the number of
-- its frames; and then what the body denotes.
use Rattle.std.specs.Prelude.{◌≡◌, List}
use Rattle.std.specs.declared.result.Result.TheVariants.{Ok, Err}
use Rattle.http_bodies.specs.Bodies.{BodyState, frames_of}
use Rattle.http_bodies.specs.Frames.{all_data}
use Rattle.body_reading.specs.Whole.{IsOverBudget, IsTooLarge}
use Rattle.request_parts.specs.Requests.{Request}
use Rattle.request_parts.specs.Wire.{wire_of}
use Rattle.handler_shapes.specs.declared.slot.Slot.{Slot}
use Rattle.api_extract.specs.declared.extract_error.ExtractError.TheVariants as errors
use Rattle.api_extract.specs.Denotes.{GivenArgs, Terms, args_told}
use Rattle.api_extract.specs.Extraction.{AsksForBody, IsWithin}

-- The cause of arguments, and of a refusal: they are what the request denotes, and a body that is asked for is within
-- the limit and the budget of frames.
pub record IsDenoted (terms : Terms) (slots : List Slot) (request : Request) (body : BodyState)
    (given : GivenArgs) : Type 0 where
  pub told : args_told terms slots (wire_of request (all_data (frames_of body))) body ≡ given
  pub within : AsksForBody terms.table slots request → IsWithin terms body

-- The cause of each answer. A size and a number of frames have theirs in the frames of a body that is asked for, by the
-- words of `body_reading`; a fault of the body and want of memory have none here.
abbrev pub HasAnswerCause : Terms → List Slot → Request → BodyState → GivenArgs → Type 0
HasAnswerCause terms slots request body (Ok args) = IsDenoted terms slots request body (Ok args)
HasAnswerCause terms slots request body (Err (errors.Refused fault message)) =
    IsDenoted terms slots request body (Err (errors.Refused fault message))
HasAnswerCause terms slots request body (Err errors.BodyFault) = ⊥
HasAnswerCause terms slots request body (Err (errors.BodyTooLarge sum)) =
    AsksForBody terms.table slots request × IsTooLarge terms.limit terms.budget (frames_of body) sum
HasAnswerCause terms slots request body (Err (errors.FrameBudget count)) =
    AsksForBody terms.table slots request × IsOverBudget terms.limit terms.budget (frames_of body) count
HasAnswerCause terms slots request body (Err errors.OutOfMemory) = ⊥
