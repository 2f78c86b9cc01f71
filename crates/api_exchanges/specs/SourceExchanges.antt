-- What comes of a request whose body comes of a source of frames.
use Rattle.std.specs.Prelude.{◌≡◌, ◌⊎◌, ◌+◌, ◌≤◌, ℕ, IsTrue, List, Result, length}
use Rattle.std.specs.List.{list_any}
use Rattle.http_bodies.specs.Bodies.{BodyState, frames_of}
use Rattle.http_bodies.specs.Frames.{SourceState}
use Rattle.http_bodies.specs.Sources.{TakesFrames}
use Rattle.body_reading.specs.Gathered.{GathersInto}
use Rattle.tree_store.specs.Tables.{Tables}
use Rattle.request_parts.specs.Requests.{Request}
use Rattle.api_extract.specs.Extraction.{takes_stream}
use Rattle.api_endpoints.specs.Endpoints.{Meanings, shape_at}
use Rattle.api_endpoints.specs.declared.endpoint.ApiEndpoint.{ApiEndpoint}
use Rattle.endpoint_answers.specs.Denoting.{IsHandledAsDenoted, IsHandledOrRefused, WasHandled}
use Rattle.endpoint_answers.specs.Exchanges.{Answers, Call, Reaches, asked}
use Rattle.endpoint_answers.specs.declared.outcome.Exchange.{Exchange}
use Rattle.endpoint_answers.specs.declared.outcome.ExchangeError.{ExchangeError}

-- the endpoint that a request reaches takes the body as a stream
abbrev pub StreamsBody : {X : Type 0} {F : X → Type 0} → Meanings X F → List (ApiEndpoint X F) → Request → Type 0
StreamsBody m endpoints request = (e : ApiEndpoint _ _) × Reaches m endpoints request e
    × IsTrue (list_any takes_stream (shape_at m e).slots)

-- What came of a source, as a body of at most one frame more than the budget, is what the request is answered with, and
-- handled by. Where it is taken as a stream, and the request was handled or the store changed, the body was gathered of
-- the source, with a call that failed at its place. A source that does not tell what is left of it does not tell which
-- frames came either: then the body is any that fits. That a call on the body failed is told by the count of faults of
-- the source alone, not by this body.
pub record AnswersFrom {X : Type 0} {F : X → Type 0} (m : Meanings X F) (endpoints : List (ApiEndpoint X F))
    (call : Call) (budget : ℕ) (old new : SourceState) (outcome : Result Exchange ExchangeError) (after : Tables)
    : Type 0 where
  pub body : BodyState
  pub taken : TakesFrames old.left (frames_of body) new.left
  pub most : length (frames_of body) ≤ budget + 1
  pub answers : Answers m endpoints (asked call body budget) outcome after
  pub handled : IsHandledAsDenoted m endpoints (asked call body budget) outcome
  pub told : IsHandledOrRefused m endpoints (asked call body budget) outcome
  pub gathers : StreamsBody m endpoints call.request → WasHandled outcome → GathersInto budget old new body
  pub changed : StreamsBody m endpoints call.request → (after ≡ call.store) ⊎ GathersInto budget old new body
