-- The argument that is made of the content of a body.
use Rattle.std.proofs.Common.{◌≡◌, ◌⊎◌, inl, inr, ℕ, ◌+◌, Bool, true, false, cond, List, [], Option, Some, None, refl}
use Rattle.std.proofs.Common.{sym, ◌∙◌, ap, subst, arith}
use Rattle.std.proofs.lemmas.Result.{on_ok_weaker}
use Rattle.std.specs.Prelude.{IsErrAnd, OnOk}
use Rattle.std.specs.declared.result.Result.{Result}
use Rattle.std.specs.declared.result.Result.TheVariants.{Ok, Err}
use Rattle.http_bodies.specs.Bodies.{BodyState, never_failing}
use Rattle.http_bodies.specs.Frames.{SourceState}
use Rattle.http_bodies.specs.Sources.{TakesFrames}
use Rattle.http_bodies.specs.declared.frame.Frame.{Frame}
use Rattle.body_reading.specs.declared.whole.BodyError.{BodyError}
use Rattle.body_reading.specs.declared.whole.BodyError.TheVariants as reading
use Rattle.body_reading.specs.Whole.{Reads, TakesAtMost, whole, IsCutShort as IsReadingCut}
use Rattle.body_reading.proofs.CallerLemmas.{cause_whole}
use Rattle.request_parts.specs.declared.content_type.ApiEndpointBodyContentType.{ApiEndpointBodyContentType}
use Rattle.request_parts.specs.Requests.{Request}
use Rattle.request_parts.specs.Wire.{wire_of}
use Rattle.handler_shapes.specs.declared.slot.Slot.{Slot}
use Rattle.handler_shapes.specs.declared.arguments.Arg.{Arg}
use Rattle.descriptors.specs.declared.table.Definition.{Definition}
use Rattle.api_extract.specs.declared.extract_error.ExtractError.{ExtractError}
use Rattle.api_extract.specs.declared.extract_error.ExtractError.TheVariants as errors
use Rattle.api_extract.specs.Answers.{IsGiven}
use Rattle.api_extract.specs.Denotes.{Terms, slot_told, terms}
use Rattle.api_extract.specs.Extraction.{ComesOf, ComesTo, IsOfReading, ReadsFor, of_read, reads_body, slot_extracted}
use Rattle.api_extract.specs.Extraction.{slot_given}
use Rattle.api_extract.specs.ReadingErrors.{reading_error}
use Rattle.api_extract.specs.Refusals.{GivenArg}
use Rattle.api_extract.proofs.GivenAnswers.{given_comes, given_not_reading}

-- reading gave what is called for, or it was cut short
abbrev pub ReadsAs : Result (List ℕ) BodyError → Result (List ℕ) BodyError → Type 0
ReadsAs read exact = IsReadingCut read ⊎ (read ≡ exact)

module _ (terms : Terms) (request : Request) (body : BodyState) (slot : Slot) (reads : reads_body slot ≡ true) where
  of_exact : (exact : Result (List ℕ) BodyError)
      → slot_given terms request exact body slot
      ≡ of_read exact (λ bytes. slot_told terms (wire_of request bytes) body slot)
  of_exact exact =
      ap (λ (b : Bool). cond b (of_read exact (λ bytes. slot_told terms (wire_of request bytes) body slot))
      (slot_told terms (wire_of request []) body slot)) reads

  pub error_is : (error : BodyError) (exact : Result (List ℕ) BodyError) → Err error ≡ exact
      → slot_given terms request exact body slot ≡ Err (reading_error error)
  error_is error exact is =
      of_exact exact
      ∙ ap (λ (r : Result (List ℕ) BodyError). of_read r
      (λ bytes. slot_told terms (wire_of request bytes) body slot)) (sym is)

  pub error_read : (error : BodyError) (exact : Result (List ℕ) BodyError) → ReadsAs (Err error) exact
      → ComesTo {T = Arg} (Err (reading_error error)) (slot_given terms request exact body slot)
  error_read error exact (inr is) = inr (sym (error_is error exact is))
  error_read reading.BodyFault exact (inl cut) = inl tt
  error_read (reading.BodyTooLarge sum) exact (inl cut) = absurd cut
  error_read (reading.FrameBudget count) exact (inl cut) = absurd cut
  error_read reading.OutOfMemory exact (inl cut) = inl tt

  pub content_read : (content : List ℕ) (exact : Result (List ℕ) BodyError) (result : GivenArg)
      → ReadsAs (Ok content) exact → IsGiven result (slot_told terms (wire_of request content) body slot)
      → ComesTo result (slot_given terms request exact body slot)
  content_read content exact result (inl cut) given = absurd cut
  content_read content exact result (inr is) given =
      subst (ComesTo result)
      (sym (of_exact exact ∙ ap
      (λ (r : Result (List ℕ) BodyError). of_read r
      (λ bytes. slot_told terms (wire_of request bytes) body slot)) (sym is))) (
      given_comes result (slot_told terms (wire_of request content) body slot) given)

-- ---- the frames that came

-- what is read of them is what they call for
came_read : (limit budget : ℕ) (old new : Option (List Frame)) (read : Result (List ℕ) BodyError)
    (h : Reads limit budget old new read) → ReadsAs read (whole limit budget h.came)
came_read limit budget old new read h =
    elim h.cause [ inl cut ↦ inl cut | inr cause ↦ inr (cause_whole limit budget h.came read cause) ]

-- and what a slot is given of them
module _ (table : List Definition) (kind : ApiEndpointBodyContentType) (limit budget : ℕ) (request : Request)
    (old new : SourceState) where
  pub read_came : (slot : Slot) (read : Result (List ℕ) BodyError) (result : GivenArg)
      → Reads limit budget old.left new.left read
      → ((exact : Result (List ℕ) BodyError) (body : BodyState) → ReadsAs read exact → ComesTo result
      (slot_given (terms table kind limit budget) request exact body slot))
      → ComesOf budget false old new (λ body. slot_extracted (terms table kind limit budget) request body slot) result
  read_came slot read result h comes = record {
    body = never_failing h.came;
    taken = h.taken;
    most = h.most;
    answer = comes (whole limit budget h.came) (never_failing h.came) (came_read limit budget old.left new.left read h);
    gathers = λ streams. absurd (cc streams);
  }

-- what an answer tells of them
module _ (limit budget : ℕ) (old new : Option (List Frame)) where
  pub error_told : (error : BodyError) → Reads limit budget old new (Err error)
      → ReadsFor {T = Arg} limit budget old new (Err (reading_error error))
  error_told reading.BodyFault h = h
  error_told (reading.BodyTooLarge sum) h = h
  error_told (reading.FrameBudget count) h = h
  error_told reading.OutOfMemory h = tt

  pub content_told : (content : List ℕ) (result exact : GivenArg) → IsGiven result exact
      → (IsErrAnd exact IsOfReading → ⊥) → Reads limit budget old new (Ok content)
      → ReadsFor limit budget old new result
  content_told content result exact given none h = by_result result (given_not_reading result exact given none)
    where
      by_result : (r : GivenArg) → (IsErrAnd r IsOfReading → ⊥) → ReadsFor limit budget old new r
      by_result (Ok some) none = record { content = content; reads = h }
      by_result (Err (errors.Refused fault message)) none = record { content = content; reads = h }
      by_result (Err errors.BodyFault) none = absurd (none tt)
      by_result (Err (errors.BodyTooLarge sum)) none = absurd (none tt)
      by_result (Err (errors.FrameBudget count)) none = absurd (none tt)
      by_result (Err errors.OutOfMemory) none = tt

-- no frame came
pub none_came : (left : Option (List Frame)) → TakesFrames left [] left
none_came None = refl
none_came (Some frames) = refl

-- an answer that holds of any frames, before any came
pub nothing_came : {T : Type 0} (budget : ℕ) (streams : Bool) (old : SourceState)
    (exact : BodyState → Result T ExtractError) (result : Result T ExtractError)
    → ((body : BodyState) → ComesTo result (exact body)) → (streams ≡ true → OnOk result ⊥)
    → ComesOf budget streams old old exact result
nothing_came budget streams old exact result comes none = record {
  body = never_failing [];
  taken = none_came old.left;
  most = omega arith;
  answer = comes (never_failing []);
  gathers = λ s. on_ok_weaker result (λ h. absurd h) (none s);
}

-- memory ran out behind some frames
pub ran_out_behind : {T : Type 0} (budget : ℕ) (streams : Bool) (old new : SourceState)
    (exact : BodyState → Result T ExtractError)
    → TakesAtMost (budget + 1) old.left new.left → ComesOf budget streams old new exact (Err errors.OutOfMemory)
ran_out_behind budget streams old new exact h = record {
  body = never_failing h.came;
  taken = h.taken;
  most = h.most;
  answer = inl tt;
  gathers = λ s. tt;
}
