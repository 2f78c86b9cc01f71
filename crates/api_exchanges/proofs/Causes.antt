-- What is given to the slots of a handler has its cause, unless it was cut short.
use Rattle.std.proofs.Common.{◌≡◌, ◌↔◌, ◌⊎◌, inl, inr, List}
use Rattle.http_bodies.specs.Bodies.{BodyState}
use Rattle.request_parts.specs.Requests.{Request}
use Rattle.handler_shapes.specs.BodySlots.{BodyComesLast}
use Rattle.handler_shapes.specs.declared.slot.Slot.{Slot}
use Rattle.api_extract.specs.Causes.{HasAnswerCause}
use Rattle.api_extract.specs.Denotes.{GivenArgs, Terms}
use Rattle.api_extract.specs.Extraction.{ComesTo, IsCutShort, extracted}

-- what a request and the frames of its body call for, where the body comes last, is the one answer with its cause in
-- them
abbrev pub AnswersHaveCauses : Type 0
AnswersHaveCauses = (terms : Terms) (slots : List Slot) (request : Request) (body : BodyState) (given : GivenArgs)
    → BodyComesLast slots
    → (given ≡ extracted terms slots request body) ↔ HasAnswerCause terms slots request body given

pub caused_by : AnswersHaveCauses → (terms : Terms) (slots : List Slot) (request : Request) (body : BodyState)
    → BodyComesLast slots → (given : GivenArgs) → ComesTo given (extracted terms slots request body)
    → IsCutShort given ⊎ HasAnswerCause terms slots request body given
caused_by causes terms slots request body last given (inl cut) = inl cut
caused_by causes terms slots request body last given (inr is) = inr ((causes terms slots request body given last).0 is)
