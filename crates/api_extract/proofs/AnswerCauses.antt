-- What comes of a request and the frames of its body is the one answer that has its cause in them.
use Rattle.std.proofs.Common.{◌≡◌, ◌≤◌, ℕ, Bool, true, false, cond, List, [], ◌∷◌, length, refl, sym, ◌∙◌, ap, ap₂}
use Rattle.std.proofs.Common.{subst}
use Rattle.std.proofs.Math.Bool.{or-false}
use Rattle.std.proofs.lemmas.Bool.{or_parts}
use Rattle.std.specs.Prelude.{IsOk, is_ok}
use Rattle.std.specs.List.{list_any}
use Rattle.std.specs.declared.result.Result.{Result}
use Rattle.std.specs.declared.result.Result.TheVariants.{Ok, Err}
use Rattle.http_bodies.specs.Bodies.{BodyState, frames_of}
use Rattle.http_bodies.specs.Frames.{all_data}
use Rattle.body_reading.specs.declared.whole.BodyError.{BodyError}
use Rattle.body_reading.specs.declared.whole.BodyError.TheVariants as reading
use Rattle.body_reading.specs.Whole.{HasCause, whole}
use Rattle.body_reading.proofs.CallerLemmas.{cause_whole, whole_cause}
use Rattle.request_parts.specs.Requests.{Request}
use Rattle.request_parts.specs.Wire.{wire_of}
use Rattle.handler_shapes.specs.declared.slot.Slot.{Slot}
use Rattle.handler_shapes.specs.BodySlots.{BodyComesLast, takes_body}
use Rattle.api_extract.specs.declared.extract_error.ExtractError.{ExtractError}
use Rattle.api_extract.specs.declared.extract_error.ExtractError.TheVariants as errors
use Rattle.api_extract.specs.Causes.{HasAnswerCause, IsDenoted}
use Rattle.api_extract.specs.Denotes.{GivenArgs, Terms, args_by, args_told, before_args, slot_told}
use Rattle.api_extract.specs.Extraction.{AsksForBody, IsWithin, extracted, of_read, plainly_told, reads_body}
use Rattle.api_extract.specs.Extraction.{shared_told, slot_given}
use Rattle.api_extract.specs.ReadingErrors.{reading_error}
use Rattle.api_extract.proofs.Contents.{error_is}
use Rattle.api_extract.proofs.Denoted.{IsTelling}
use Rattle.api_extract.proofs.FrontSlots.{IsBodyAlone, reads_only}
use Rattle.api_extract.proofs.Joined.{ArePartedAs, all_joined, any_joined, shared_joined}
use Rattle.api_extract.proofs.Limits.{all_of_content, read_within}
use Rattle.api_extract.proofs.NoFaults.{args_tell, slot_tells}
use Rattle.api_extract.proofs.SlotLists.{args_before, behind, error_behind, one_error}

-- ---- where no slot reads the body, it is the same what reading it gives

module _ (terms : Terms) (request : Request) (body : BodyState) where
  unread_slot : (read : Result (List ℕ) BodyError) (slot : Slot) → reads_body slot ≡ false
      → slot_given terms request read body slot ≡ slot_told terms (wire_of request []) body slot
  unread_slot read slot none =
      ap (λ (b : Bool). cond b (of_read read (λ bytes. slot_told terms (wire_of request bytes) body slot))
      (slot_told terms (wire_of request []) body slot)) none

  unread : (one other : Result (List ℕ) BodyError) (slots : List Slot) → list_any reads_body slots ≡ false
      → args_by (slot_given terms request one body) slots ≡ args_by (slot_given terms request other body) slots
  unread one other [] none = refl
  unread one other (slot ∷ slots) none =
      let parts = or_parts (reads_body slot) (list_any reads_body slots) none in
      ap₂ before_args (unread_slot one slot parts.0 ∙ sym (unread_slot other slot parts.0))
      (unread one other slots parts.1)

  -- and the slot that reads it, alone, is given the error of reading
  read_alone : (error : BodyError) (rest : List Slot) → IsBodyAlone rest → list_any reads_body rest ≡ true
      → args_by (slot_given terms request (Err error) body) rest ≡ Err (reading_error error)
  read_alone error [] alone reads = absurd (cc reads)
  read_alone error (slot ∷ []) alone reads =
      one_error (slot_given terms request (Err error) body) slot (reading_error error)
      (error_is terms request body slot (sym (or-false (reads_body slot)) ∙ reads) error (Err error) refl)
  read_alone error (slot ∷ next ∷ rest) alone reads = absurd alone

-- ---- the slots before the body, where it comes last

record IsParted (slots : List Slot) : Type 0 where
  front : List Slot
  rest : List Slot
  parts : ArePartedAs slots front rest

parted_last : (slots : List Slot) → BodyComesLast slots → IsParted slots
parted_last [] last =
    record { front = []; rest = []; parts = record { none = tt; joined = refl; alone = tt } }
parted_last (slot ∷ next ∷ slots) last =
    let later = parted_last (next ∷ slots) last.1 in
    record {
      front = slot ∷ later.front;
      rest = later.rest;
      parts = record {
        none = (last.0, later.parts.none);
        joined = ap (λ (some : List Slot). slot ∷ some) later.parts.joined;
        alone = later.parts.alone;
      };
    }
parted_last (slot ∷ []) last = by_body (takes_body slot) refl
  where
    by_body : (b : Bool) → takes_body slot ≡ b → IsParted (slot ∷ [])
    by_body true takes =
        record { front = []; rest = slot ∷ []; parts = record { none = tt; joined = refl; alone = takes } }
    by_body false none =
        record { front = slot ∷ []; rest = []; parts = record { none = (none, tt); joined = refl; alone = tt } }

behind_args : (some rest : GivenArgs) (error : ExtractError) → IsOk some → rest ≡ Err error
    → behind some rest ≡ Err error
behind_args (Ok args) rest error ok is = ap (args_before args) is ∙ error_behind args error
behind_args (Err first) rest error ok is = absurd (cc ok)

module _ (terms : Terms) (slots : List Slot) (request : Request) (body : BodyState) (last : BodyComesLast slots) where
  abbrev given_by : Result (List ℕ) BodyError → GivenArgs
  given_by read = args_by (slot_given terms request read body) slots

  -- an error of theirs is told, whatever reading the body gives
  early : (read : Result (List ℕ) BodyError) (error : ExtractError)
      → shared_told terms.table slots request ≡ Err error → given_by read ≡ Err error
  early read error is =
      let p = parted_last slots last in
      all_joined slots p.front p.rest p.parts terms request read body
      ∙ ap (λ (some : GivenArgs). behind some (args_by (slot_given terms request read body) p.rest))
      (sym (shared_joined slots p.front p.rest p.parts terms.table request) ∙ is)

  -- an error of reading the body is told behind their arguments
  late : (error : BodyError) → AsksForBody terms.table slots request
      → given_by (Err error) ≡ Err (reading_error error)
  late error asks =
      let p = parted_last slots last in
      let reads : list_any reads_body p.rest ≡ true
      = sym (any_joined slots p.front p.rest p.parts reads_body reads_only) ∙ asks.reads in
      all_joined slots p.front p.rest p.parts terms request (Err error) body
      ∙ behind_args (args_by (plainly_told terms.table request) p.front)
      (args_by (slot_given terms request (Err error) body) p.rest) (reading_error error)
      (subst IsOk (shared_joined slots p.front p.rest p.parts terms.table request) asks.shared)
      (read_alone terms request body error p.rest p.parts.alone reads)

  -- ---- what is denoted comes, where a body that is asked for is within its limits

  abbrev told : GivenArgs
  told = args_told terms slots (wire_of request (all_data (frames_of body))) body

  abbrev LiesWithin : Type 0
  LiesWithin = AsksForBody terms.table slots request → IsWithin terms body

  denoted_comes : LiesWithin → extracted terms slots request body ≡ told
  denoted_comes within = by_asking (list_any reads_body slots) refl (shared_told terms.table slots request) refl
    where
      by_asking : (b : Bool) → list_any reads_body slots ≡ b → (shared : GivenArgs)
          → shared_told terms.table slots request ≡ shared → extracted terms slots request body ≡ told
      by_asking false none shared is =
          unread terms request body (whole terms.limit terms.budget (frames_of body))
          (Ok (all_data (frames_of body))) slots none ∙ all_of_content terms request body (all_data (frames_of body)) slots
      by_asking true reads (Err error) is =
          early (whole terms.limit terms.budget (frames_of body)) error is
          ∙ sym (early (Ok (all_data (frames_of body))) error is)
          ∙ all_of_content terms request body (all_data (frames_of body)) slots
      by_asking true reads (Ok args) is =
          read_within terms request body (within (record { reads = reads; shared = ap is_ok is })) slots

  -- ---- what comes has its cause

  telling_cause : (given : GivenArgs) → IsTelling given → IsDenoted terms slots request body given
      → HasAnswerCause terms slots request body given
  telling_cause (Ok args) tells is = is
  telling_cause (Err (errors.Refused fault message)) tells is = is
  telling_cause (Err errors.BodyFault) tells is = absurd tells
  telling_cause (Err (errors.BodyTooLarge sum)) tells is = absurd tells
  telling_cause (Err (errors.FrameBudget count)) tells is = absurd tells
  telling_cause (Err errors.OutOfMemory) tells is = absurd tells

  told_cause : LiesWithin → HasAnswerCause terms slots request body (extracted terms slots request body)
  told_cause within =
      let wire = wire_of request (all_data (frames_of body)) in
      subst (λ (given : GivenArgs). HasAnswerCause terms slots request body given) (sym (denoted_comes within))
      (telling_cause told (args_tell (slot_told terms wire body) (slot_tells terms wire body) slots)
      (record { told = refl; within = within }))

  reading_cause : (error : BodyError) → HasCause terms.limit terms.budget (frames_of body) (Err error)
      → AsksForBody terms.table slots request → HasAnswerCause terms slots request body (Err (reading_error error))
  reading_cause reading.BodyFault cause asks = absurd cause
  reading_cause (reading.BodyTooLarge sum) cause asks = (asks, cause)
  reading_cause (reading.FrameBudget count) cause asks = (asks, cause)
  reading_cause reading.OutOfMemory cause asks = absurd cause

  read_cause : (read : Result (List ℕ) BodyError) → whole terms.limit terms.budget (frames_of body) ≡ read
      → HasCause terms.limit terms.budget (frames_of body) read → AsksForBody terms.table slots request
      → HasAnswerCause terms slots request body (extracted terms slots request body)
  read_cause (Ok bytes) is cause asks =
      told_cause (λ _. record {
        frames = cause.few;
        content = subst (λ (some : List ℕ). length some ≤ terms.limit) cause.content_is cause.small;
      })
  read_cause (Err error) is cause asks =
      subst (λ (given : GivenArgs). HasAnswerCause terms slots request body given)
      (sym (ap given_by is ∙ late error asks)) (reading_cause error cause asks)

  pub come_cause : HasAnswerCause terms slots request body (extracted terms slots request body)
  come_cause = by_asking (list_any reads_body slots) refl (shared_told terms.table slots request) refl
    where
      by_asking : (b : Bool) → list_any reads_body slots ≡ b → (shared : GivenArgs)
          → shared_told terms.table slots request ≡ shared
          → HasAnswerCause terms slots request body (extracted terms slots request body)
      by_asking false none shared is = told_cause (λ asks. absurd (cc (asks.reads, none)))
      by_asking true reads (Err error) is =
          told_cause (λ asks. let ok : false ≡ true = sym (ap is_ok is) ∙ asks.shared in absurd (cc ok))
      by_asking true reads (Ok args) is =
          read_cause (whole terms.limit terms.budget (frames_of body)) refl
          (whole_cause terms.limit terms.budget (frames_of body)) (record { reads = reads; shared = ap is_ok is })

  -- ---- and an answer that has its cause comes

  read_comes : (error : BodyError) → HasCause terms.limit terms.budget (frames_of body) (Err error)
      → AsksForBody terms.table slots request → Err (reading_error error) ≡ extracted terms slots request body
  read_comes error cause asks =
      sym (ap given_by (sym (cause_whole terms.limit terms.budget (frames_of body) (Err error) cause))
      ∙ late error asks)

  pub cause_comes : (given : GivenArgs) → HasAnswerCause terms slots request body given
      → given ≡ extracted terms slots request body
  cause_comes (Ok args) cause = sym (denoted_comes cause.within ∙ cause.told)
  cause_comes (Err (errors.Refused fault message)) cause = sym (denoted_comes cause.within ∙ cause.told)
  cause_comes (Err errors.BodyFault) cause = absurd cause
  cause_comes (Err (errors.BodyTooLarge sum)) cause = read_comes (reading.BodyTooLarge sum) cause.1 cause.0
  cause_comes (Err (errors.FrameBudget count)) cause = read_comes (reading.FrameBudget count) cause.1 cause.0
  cause_comes (Err errors.OutOfMemory) cause = absurd cause
