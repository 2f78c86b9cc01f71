-- What comes of the frames of a body is what the request denotes whose body is their content.
use Rattle.std.proofs.Common.{◌≡◌, ℕ, ◌+◌, Bool, true, false, nat_lt, List, [], ◌∷◌, length, take, Option, Some, None}
use Rattle.std.proofs.Common.{refl, sym, ◌∙◌, ap, subst}
use Rattle.std.specs.declared.result.Result.{Result}
use Rattle.std.specs.declared.result.Result.TheVariants.{Ok, Err}
use Rattle.std.specs.List.{find}
use Rattle.http_bodies.specs.Bodies.{BodyState, frames_of}
use Rattle.http_bodies.specs.Frames.{all_data}
use Rattle.http_bodies.specs.declared.frame.Frame.{Frame}
use Rattle.body_reading.specs.declared.whole.BodyError.{BodyError}
use Rattle.body_reading.specs.declared.whole.BodyError.TheVariants as reading
use Rattle.body_reading.specs.Whole.{by_size, sums, whole}
use Rattle.request_parts.specs.Requests.{Request}
use Rattle.request_parts.specs.Wire.{wire_of}
use Rattle.handler_shapes.specs.declared.slot.Slot.{Slot}
use Rattle.handler_shapes.specs.declared.slot.Slot.TheVariants.{Path, Query, Header, PagedQuery, TypedBody, RawBody}
use Rattle.handler_shapes.specs.declared.slot.Slot.TheVariants.{StreamBody}
use Rattle.handler_shapes.specs.declared.arguments.Arg.{Arg}
use Rattle.typed_values.specs.declared.fault.Fault.{Fault}
use Rattle.api_extract.specs.declared.extract_error.ExtractError.{ExtractError}
use Rattle.api_extract.specs.declared.extract_error.ExtractError.TheVariants as errors
use Rattle.api_extract.specs.Denotes.{GivenArgs, Terms, arg_before, args_by, args_told, before_args, slot_told}
use Rattle.api_extract.specs.Extraction.{extracted, of_read, slot_given}
use Rattle.api_extract.specs.ReadingErrors.{reading_error}
use Rattle.api_extract.specs.Refusals.{GivenArg}

-- the content that a body is read as is that of its frames
read_data : (limit budget : ℕ) (frames : List Frame) (content : List ℕ) → whole limit budget frames ≡ Ok content
    → content ≡ all_data frames
read_data limit budget frames content =
    by_above (find (nat_lt limit) (sums 0 (take (budget + 1) frames))) (nat_lt budget (length frames))
  where
    by_above : (above : Option ℕ) (over : Bool) → by_size above over budget (all_data frames) ≡ Ok content
        → content ≡ all_data frames
    by_above (Some sum) over e = absurd (cc e)
    by_above None true e = absurd (cc e)
    by_above None false e = cc e

-- arguments, or a refusal
abbrev pub IsTelling : {T : Type 0} → Result T ExtractError → Type 0
IsTelling (Ok given) = Unit {0}
IsTelling (Err (errors.Refused fault message)) = Unit {0}
IsTelling (Err errors.BodyFault) = ⊥
IsTelling (Err (errors.BodyTooLarge sum)) = ⊥
IsTelling (Err (errors.FrameBudget count)) = ⊥
IsTelling (Err errors.OutOfMemory) = ⊥

-- the first of what is told in turn tells, and the rest do behind an argument
one_tells : (one : GivenArg) (rest : GivenArgs) → IsTelling (before_args one rest) → IsTelling one
one_tells (Ok arg) rest h = tt
one_tells (Err error) rest h = h

rest_tells : (arg : Arg) (rest : GivenArgs) → IsTelling (arg_before arg rest) → IsTelling rest
rest_tells arg (Ok args) h = tt
rest_tells arg (Err error) h = h

no_telling : (T : Type 0) (error : BodyError) → IsTelling {T = T} (Err (reading_error error)) → ⊥
no_telling T reading.BodyFault h = h
no_telling T (reading.BodyTooLarge sum) h = h
no_telling T (reading.FrameBudget count) h = h
no_telling T reading.OutOfMemory h = h

module _ (terms : Terms) (request : Request) (body : BodyState) where
  abbrev read : Result (List ℕ) BodyError
  read = whole terms.limit terms.budget (frames_of body)

  abbrev told : Slot → GivenArg
  told = slot_told terms (wire_of request (all_data (frames_of body))) body

  abbrev given : Slot → GivenArg
  given = slot_given terms request read body

  of_content : (slot : Slot) (r : Result (List ℕ) BodyError) → read ≡ r
      → IsTelling (of_read r (λ bytes. slot_told terms (wire_of request bytes) body slot))
      → of_read r (λ bytes. slot_told terms (wire_of request bytes) body slot) ≡ told slot
  of_content slot (Ok content) e h =
      ap (λ (bytes : List ℕ). slot_told terms (wire_of request bytes) body slot)
      (read_data terms.limit terms.budget (frames_of body) content e)
  of_content slot (Err error) e h = absurd (no_telling Arg error h)

  slot_tells : (slot : Slot) → IsTelling (given slot) → given slot ≡ told slot
  slot_tells (Path desc) h = refl
  slot_tells (Query desc) h = refl
  slot_tells (Header desc) h = refl
  slot_tells (PagedQuery scan selector selector_table) h = refl
  slot_tells (TypedBody desc name) h = of_content (TypedBody desc name) read refl h
  slot_tells RawBody h = of_content RawBody read refl h
  slot_tells StreamBody h = refl

  args_tell : (slots : List Slot) → IsTelling (args_by given slots) → args_by given slots ≡ args_by told slots
  args_tell [] h = refl
  args_tell (slot ∷ slots) h =
      by_one (given slot) (λ k. args_tell slots k) h
      ∙ ap (λ (one : GivenArg). before_args one (args_by told slots))
      (slot_tells slot (one_tells (given slot) (args_by given slots) h))
    where
      by_one : (one : GivenArg) → (IsTelling (args_by given slots) → args_by given slots ≡ args_by told slots)
          → IsTelling (before_args one (args_by given slots))
          → before_args one (args_by given slots) ≡ before_args one (args_by told slots)
      by_one (Ok arg) later k = ap (arg_before arg) (later (rest_tells arg (args_by given slots) k))
      by_one (Err error) later k = refl

  -- arguments that come of the frames are those that are denoted
  pub come_denoted : (slots : List Slot) (args : List Arg) → extracted terms slots request body ≡ Ok args
      → args_told terms slots (wire_of request (all_data (frames_of body))) body ≡ Ok args
  come_denoted slots args e = sym (args_tell slots (subst IsTelling (sym e) tt)) ∙ e

  -- and so is a refusal
  pub come_refused : (slots : List Slot) (fault : Fault) (message : List ℕ)
      → extracted terms slots request body ≡ Err (errors.Refused fault message)
      → args_told terms slots (wire_of request (all_data (frames_of body))) body ≡ Err (errors.Refused fault message)
  come_refused slots fault message e = sym (args_tell slots (subst IsTelling (sym e) tt)) ∙ e
