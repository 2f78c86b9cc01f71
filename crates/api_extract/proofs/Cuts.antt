-- What slots are given of two bodies with the same content.
use Rattle.std.proofs.Common.{◌≡◌, ℕ, false, List, [], ◌∷◌, refl, sym, ◌∙◌, ap, ap₂}
use Rattle.std.proofs.lemmas.Bool.{or_parts}
use Rattle.std.specs.List.{list_any}
use Rattle.std.specs.declared.result.Result.TheVariants.{Ok, Err}
use Rattle.http_bodies.specs.Bodies.{BodyState, frames_of}
use Rattle.http_bodies.specs.Frames.{all_data}
use Rattle.body_reading.specs.Streams.{StreamState, fresh_stream}
use Rattle.request_words.specs.declared.request.WireRequest.{WireRequest}
use Rattle.request_parts.specs.Requests.{Request}
use Rattle.request_parts.specs.Wire.{wire_of}
use Rattle.handler_shapes.specs.declared.slot.Slot.{Slot}
use Rattle.handler_shapes.specs.declared.slot.Slot.TheVariants.{Path, Query, Header, PagedQuery, TypedBody, RawBody}
use Rattle.handler_shapes.specs.declared.slot.Slot.TheVariants.{StreamBody}
use Rattle.typed_values.specs.Denotes.{Told}
use Rattle.api_extract.specs.declared.extract_error.ExtractError.{ExtractError}
use Rattle.api_extract.specs.Cuts.{AreCutsOfOne, with_stream, with_streams}
use Rattle.api_extract.specs.Denotes.{GivenArgs, Terms, args_told, before_args, slot_told}
use Rattle.api_extract.specs.Extraction.{extracted, slot_extracted, takes_stream}
use Rattle.api_extract.specs.Refusals.{GivenArg, told_as}
use Rattle.api_extract.proofs.Limits.{read_within, slot_within}
use Rattle.api_extract.proofs.NoFaults.{slot_related}

-- ---- what one slot is given, with a stream in the place of another

abbrev one_with : StreamState → GivenArg → GivenArg
one_with stream (Ok arg) = Ok (with_stream stream arg)
one_with stream (Err error) = Err error

told_with : (stream : StreamState) (prefix : List ℕ) (o : Told)
    → told_as prefix o ≡ one_with stream (told_as prefix o)
told_with stream prefix (Ok tree) = refl
told_with stream prefix (Err trouble) = refl

before_with : (stream : StreamState) (one : GivenArg) (rest : GivenArgs)
    → before_args (one_with stream one) (with_streams stream rest) ≡ with_streams stream (before_args one rest)
before_with stream (Ok arg) (Ok args) = refl
before_with stream (Ok arg) (Err error) = refl
before_with stream (Err error) rest = refl

-- ---- what a request denotes with two bodies

module _ (terms : Terms) (request : WireRequest) (one other : BodyState) where
  -- only a slot for a stream is given the body itself
  same_slot : (slot : Slot) → takes_stream slot ≡ false
      → slot_told terms request one slot ≡ slot_told terms request other slot
  same_slot (Path desc) none = refl
  same_slot (Query desc) none = refl
  same_slot (Header desc) none = refl
  same_slot (PagedQuery scan selector selector_table) none = refl
  same_slot (TypedBody desc name) none = refl
  same_slot RawBody none = refl
  same_slot StreamBody none = absurd (cc none)

  none_streams : (slots : List Slot) → list_any takes_stream slots ≡ false
      → args_told terms slots request one ≡ args_told terms slots request other
  none_streams [] none = refl
  none_streams (slot ∷ slots) none =
      let parts = or_parts (takes_stream slot) (list_any takes_stream slots) none in
      ap₂ before_args (same_slot slot parts.0) (none_streams slots parts.1)

  abbrev stream : StreamState
  stream = fresh_stream other terms.limit terms.budget

  slot_with : (slot : Slot) → slot_told terms request other slot ≡ one_with stream (slot_told terms request one slot)
  slot_with slot =
      slot_related (λ (others ones : GivenArg). others ≡ one_with stream ones) (told_with stream)
      terms request other one (λ bytes. refl) refl slot

  all_with : (slots : List Slot)
      → args_told terms slots request other ≡ with_streams stream (args_told terms slots request one)
  all_with [] = refl
  all_with (slot ∷ slots) =
      ap₂ before_args (slot_with slot) (all_with slots)
      ∙ before_with stream (slot_told terms request one slot) (args_told terms slots request one)

-- ---- what comes of them, where they are cuts of one content

module _ (terms : Terms) (request : Request) (one other : BodyState) (cuts : AreCutsOfOne terms one other) where
  of_one : (slots : List Slot) → extracted terms slots request one
      ≡ args_told terms slots (wire_of request (all_data (frames_of one))) one
  of_one slots = read_within terms request one cuts.one_within slots

  of_other : (slots : List Slot) → extracted terms slots request other
      ≡ args_told terms slots (wire_of request (all_data (frames_of one))) other
  of_other slots =
      read_within terms request other cuts.other_within slots
      ∙ ap (λ (bytes : List ℕ). args_told terms slots (wire_of request bytes) other) (sym cuts.same)

  pub same_of_each : (slot : Slot) → takes_stream slot ≡ false
      → slot_extracted terms request one slot ≡ slot_extracted terms request other slot
  same_of_each slot none =
      slot_within terms request one cuts.one_within slot
      ∙ same_slot terms (wire_of request (all_data (frames_of one))) one other slot none
      ∙ ap (λ (bytes : List ℕ). slot_told terms (wire_of request bytes) other slot) cuts.same
      ∙ sym (slot_within terms request other cuts.other_within slot)

  pub same_of_all : (slots : List Slot) → extracted terms slots request other
      ≡ with_streams (fresh_stream other terms.limit terms.budget) (extracted terms slots request one)
  same_of_all slots =
      of_other slots ∙ all_with terms (wire_of request (all_data (frames_of one))) one other slots
      ∙ ap (with_streams (fresh_stream other terms.limit terms.budget)) (sym (of_one slots))

  pub same_refusal : (slots : List Slot) (error : ExtractError) → extracted terms slots request one ≡ Err error
      → extracted terms slots request other ≡ Err error
  same_refusal slots error is =
      same_of_all slots ∙ ap (with_streams (fresh_stream other terms.limit terms.budget)) is

  pub same_unstreamed : (slots : List Slot) → list_any takes_stream slots ≡ false
      → extracted terms slots request one ≡ extracted terms slots request other
  same_unstreamed slots none =
      of_one slots ∙ none_streams terms (wire_of request (all_data (frames_of one))) one other slots none
      ∙ sym (of_other slots)
