-- A body within its limits is read, and gives what the request denotes.
use Rattle.std.proofs.Common.{◌≡◌, ℕ, List, [], ◌∷◌, refl, ◌∙◌, ap, ap₂}
use Rattle.std.specs.declared.result.Result.{Result}
use Rattle.std.specs.declared.result.Result.TheVariants.{Ok}
use Rattle.http_bodies.specs.Bodies.{BodyState, frames_of}
use Rattle.http_bodies.specs.Frames.{all_data}
use Rattle.body_reading.specs.declared.whole.BodyError.{BodyError}
use Rattle.body_reading.specs.Whole.{whole}
use Rattle.body_reading.proofs.CallerLemmas.{whole_read}
use Rattle.request_parts.specs.Requests.{Request}
use Rattle.request_parts.specs.Wire.{wire_of}
use Rattle.handler_shapes.specs.declared.slot.Slot.{Slot}
use Rattle.handler_shapes.specs.declared.slot.Slot.TheVariants.{Path, Query, Header, PagedQuery, TypedBody, RawBody}
use Rattle.handler_shapes.specs.declared.slot.Slot.TheVariants.{StreamBody}
use Rattle.api_extract.specs.Denotes.{Terms, args_by, args_told, before_args, slot_told}
use Rattle.api_extract.specs.Extraction.{IsWithin, extracted, slot_extracted, slot_given}

module _ (terms : Terms) (request : Request) (body : BodyState) where
  -- what is given of a content that was read is what the request denotes with it
  slot_of_content : (bytes : List ℕ) (slot : Slot)
      → slot_given terms request (Ok bytes) body slot ≡ slot_told terms (wire_of request bytes) body slot
  slot_of_content bytes (Path desc) = refl
  slot_of_content bytes (Query desc) = refl
  slot_of_content bytes (Header desc) = refl
  slot_of_content bytes (PagedQuery scan selector selector_table) = refl
  slot_of_content bytes (TypedBody desc name) = refl
  slot_of_content bytes RawBody = refl
  slot_of_content bytes StreamBody = refl

  pub all_of_content : (bytes : List ℕ) (slots : List Slot)
      → args_by (slot_given terms request (Ok bytes) body) slots
      ≡ args_told terms slots (wire_of request bytes) body
  all_of_content bytes [] = refl
  all_of_content bytes (slot ∷ slots) = ap₂ before_args (slot_of_content bytes slot) (all_of_content bytes slots)

  module _ (within : IsWithin terms body) where
    all_read : whole terms.limit terms.budget (frames_of body) ≡ Ok (all_data (frames_of body))
    all_read = whole_read terms.limit terms.budget (frames_of body) within.frames within.content

    pub slot_within : (slot : Slot) → slot_extracted terms request body slot
        ≡ slot_told terms (wire_of request (all_data (frames_of body))) body slot
    slot_within slot =
        ap (λ (r : Result (List ℕ) BodyError). slot_given terms request r body slot) all_read
        ∙ slot_of_content (all_data (frames_of body)) slot

    pub read_within : (slots : List Slot) → extracted terms slots request body
        ≡ args_told terms slots (wire_of request (all_data (frames_of body))) body
    read_within slots =
        ap (λ (r : Result (List ℕ) BodyError). args_by (slot_given terms request r body) slots) all_read
        ∙ all_of_content (all_data (frames_of body)) slots
