-- An error of reading the body that a request calls for has its cause in the frames of the body.
use Rattle.std.proofs.Common.{ℕ, List, [], ◌∷◌}
use Rattle.std.specs.Prelude.{IfErr, IsErrAnd}
use Rattle.std.specs.declared.result.Result.{Result}
use Rattle.std.specs.declared.result.Result.TheVariants.{Ok, Err}
use Rattle.http_bodies.specs.Bodies.{BodyState, frames_of}
use Rattle.body_reading.specs.declared.whole.BodyError.{BodyError}
use Rattle.body_reading.specs.declared.whole.BodyError.TheVariants as reading
use Rattle.body_reading.specs.Whole.{HasCause, whole}
use Rattle.body_reading.proofs.CallerLemmas.{whole_cause}
use Rattle.request_parts.specs.Requests.{Request}
use Rattle.request_parts.specs.Wire.{wire_of}
use Rattle.handler_shapes.specs.declared.slot.Slot.{Slot}
use Rattle.handler_shapes.specs.declared.slot.Slot.TheVariants.{Path, Query, Header, PagedQuery, TypedBody, RawBody}
use Rattle.handler_shapes.specs.declared.slot.Slot.TheVariants.{StreamBody}
use Rattle.api_extract.specs.declared.extract_error.ExtractError.{ExtractError}
use Rattle.api_extract.specs.declared.extract_error.ExtractError.TheVariants as errors
use Rattle.api_extract.specs.Denotes.{GivenArgs, Terms, before_args, slot_told}
use Rattle.api_extract.specs.Extraction.{HasSizeCause, IsOfReading, extracted, of_read, slot_extracted}
use Rattle.api_extract.specs.ReadingErrors.{reading_error}
use Rattle.api_extract.specs.Refusals.{GivenArg}
use Rattle.api_extract.proofs.NoFaults.{slot_not_reading}

module _ (terms : Terms) (request : Request) (body : BodyState) where
  abbrev Sized : ExtractError → Type 0
  Sized = HasSizeCause terms.limit terms.budget (frames_of body)

  -- an error that is none of reading tells no size
  no_size : (error : ExtractError) → (IsOfReading error → ⊥) → Sized error
  no_size (errors.Refused fault message) none = tt
  no_size errors.BodyFault none = tt
  no_size (errors.BodyTooLarge sum) none = absurd (none tt)
  no_size (errors.FrameBudget count) none = absurd (none tt)
  no_size errors.OutOfMemory none = tt

  given_sized : (given : GivenArg) → (IsErrAnd given IsOfReading → ⊥) → IfErr given Sized
  given_sized (Ok arg) none = tt
  given_sized (Err error) none = no_size error none

  reading_sized : (error : BodyError) → HasCause terms.limit terms.budget (frames_of body) (Err error)
      → Sized (reading_error error)
  reading_sized reading.BodyFault cause = tt
  reading_sized (reading.BodyTooLarge sum) cause = cause
  reading_sized (reading.FrameBudget count) cause = cause
  reading_sized reading.OutOfMemory cause = tt

  told_sized : (bytes : List ℕ) (slot : Slot) → IfErr (slot_told terms (wire_of request bytes) body slot) Sized
  told_sized bytes slot =
      given_sized (slot_told terms (wire_of request bytes) body slot)
      (slot_not_reading terms (wire_of request bytes) body slot)

  read_sized : (read : Result (List ℕ) BodyError) → HasCause terms.limit terms.budget (frames_of body) read
      → (slot : Slot) → IfErr (of_read read (λ bytes. slot_told terms (wire_of request bytes) body slot)) Sized
  read_sized (Ok bytes) cause slot = told_sized bytes slot
  read_sized (Err error) cause slot = reading_sized error cause

  whole_sized : (slot : Slot)
      → IfErr (of_read (whole terms.limit terms.budget (frames_of body))
      (λ bytes. slot_told terms (wire_of request bytes) body slot)) Sized
  whole_sized slot =
      read_sized (whole terms.limit terms.budget (frames_of body))
      (whole_cause terms.limit terms.budget (frames_of body)) slot

  slot_sized : (slot : Slot) → IfErr (slot_extracted terms request body slot) Sized
  slot_sized (Path desc) = told_sized [] (Path desc)
  slot_sized (Query desc) = told_sized [] (Query desc)
  slot_sized (Header desc) = told_sized [] (Header desc)
  slot_sized (PagedQuery scan selector selector_table) = told_sized [] (PagedQuery scan selector selector_table)
  slot_sized (TypedBody desc name) = whole_sized (TypedBody desc name)
  slot_sized RawBody = whole_sized RawBody
  slot_sized StreamBody = told_sized [] StreamBody

  before_sized : (one : GivenArg) (rest : GivenArgs) → IfErr one Sized → IfErr rest Sized
      → IfErr (before_args one rest) Sized
  before_sized (Ok arg) (Ok args) first later = tt
  before_sized (Ok arg) (Err error) first later = later
  before_sized (Err error) rest first later = first

  pub all_sized : (slots : List Slot) → IfErr (extracted terms slots request body) Sized
  all_sized [] = tt
  all_sized (slot ∷ slots) =
      before_sized (slot_extracted terms request body slot) (extracted terms slots request body) (slot_sized slot)
      (all_sized slots)
