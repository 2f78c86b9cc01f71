-- What an outcome tells of the frames of a body that a slot reads.
use Rattle.std.specs.Prelude.{⊤, ℕ, List, Option, Result}
use Rattle.std.specs.declared.result.Result.TheVariants.{Ok, Err}
use Rattle.http_bodies.specs.declared.frame.Frame.{Frame}
use Rattle.body_reading.specs.Whole.{Reads}
use Rattle.body_reading.specs.declared.whole.BodyError.TheVariants as reading
use Rattle.api_extract.specs.Denotes.{GivenArgs}
use Rattle.api_extract.specs.Extraction.{AsksForBody, IsReadToEnd, ReadsFor}
use Rattle.api_endpoints.specs.Endpoints.{Meanings, shape_at}
use Rattle.api_endpoints.specs.declared.endpoint.ApiEndpoint.{ApiEndpoint}
use Rattle.endpoint_answers.specs.Exchanges.{Call, Reaches, limit_at}
use Rattle.endpoint_answers.specs.declared.outcome.Exchange.{Exchange}
use Rattle.endpoint_answers.specs.declared.outcome.ExchangeError.{ExchangeError}
use Rattle.endpoint_answers.specs.declared.outcome.ExchangeError.TheVariants as failed

-- A body was read to its end where the request was handled or refused. A size and a number of frames have their causes
-- in the frames that came, and the rest was thrown away within the budget; before a fault at most one frame more than
-- the budget came. Want of memory tells nothing of them, and neither does what is told before a body is touched.
abbrev pub BodyReadFor : (limit budget : ℕ) → (old new : Option (List Frame)) → Result Exchange ExchangeError → Type 0
BodyReadFor limit budget old new (Ok exchange) = IsReadToEnd limit budget old new
BodyReadFor limit budget old new (Err (failed.BodyFault response)) = Reads limit budget old new (Err reading.BodyFault)
BodyReadFor limit budget old new (Err (failed.BodyTooLarge sum response)) =
    Reads limit budget old new (Err (reading.BodyTooLarge sum))
BodyReadFor limit budget old new (Err (failed.FrameBudget count)) =
    Reads limit budget old new (Err (reading.FrameBudget count))
BodyReadFor limit budget old new (Err failed.OutOfMemory) = ⊤
BodyReadFor limit budget old new (Err failed.BadRequestId) = ⊤
BodyReadFor limit budget old new (Err failed.NoSuchOperation) = ⊤
BodyReadFor limit budget old new (Err failed.WrongVariables) = ⊤

-- so it is where the request reaches an endpoint with a slot that reads the body, behind slots that are given theirs
abbrev pub ReadsBodyFor : {X : Type 0} {F : X → Type 0} → Meanings X F → List (ApiEndpoint X F) → Call → (budget : ℕ)
    → (old new : Option (List Frame)) → Result Exchange ExchangeError → Type 0
ReadsBodyFor m endpoints call budget old new outcome = (e : ApiEndpoint _ _) → Reaches m endpoints call.request e
    → AsksForBody (shape_at m e).table (shape_at m e).slots call.request
    → BodyReadFor (limit_at e call.config) budget old new outcome

-- an outcome tells of the frames of a body what the arguments, or the error, that slots were given tell of them
abbrev pub TellsAsGiven : GivenArgs → Result Exchange ExchangeError → Type 0
TellsAsGiven given outcome = (limit budget : ℕ) (old new : Option (List Frame)) → ReadsFor limit budget old new given
    → BodyReadFor limit budget old new outcome
