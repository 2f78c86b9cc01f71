-- An answer for all slots, by those for the slots before the body and for the slot that takes it.
use Rattle.std.proofs.Common.{◌≡◌, ◌⊎◌, inl, inr, ℕ, Bool, true, false, not, List, [], ◌∷◌, ◌++◌, filter, Option}
use Rattle.std.proofs.Common.{Some, None, All, refl, sym, ◌∙◌, ap, subst, append-nil}
use Rattle.std.proofs.Math.Bool.{or-false}
use Rattle.std.proofs.lemmas.List.Elements.{recursion_from_All}
use Rattle.std.specs.Prelude.{IfSome, IsErr, IsErrAnd, IsErrOf, IsOk, IsTrue, MatchOption, OnOk, is_ok}
use Rattle.std.specs.List.{AllByRecursion, list_any}
use Rattle.std.specs.declared.result.Result.{Result}
use Rattle.std.specs.declared.result.Result.TheVariants.{Ok, Err}
use Rattle.http_bodies.specs.Bodies.{BodyState, frames_of, never_failing}
use Rattle.http_bodies.specs.Frames.{SourceState}
use Rattle.http_bodies.specs.declared.frame.Frame.{Frame}
use Rattle.body_reading.specs.Gathered.{GathersInto}
use Rattle.body_reading.specs.Whole.{whole}
use Rattle.body_reading.specs.declared.whole.BodyError.{BodyError}
use Rattle.request_parts.specs.declared.content_type.ApiEndpointBodyContentType.{ApiEndpointBodyContentType}
use Rattle.request_parts.specs.declared.content_type.ApiEndpointBodyContentType.TheVariants.{Bytes}
use Rattle.request_parts.specs.Requests.{Request}
use Rattle.request_parts.specs.Wire.{wire_of}
use Rattle.handler_shapes.specs.declared.slot.Slot.{Slot}
use Rattle.handler_shapes.specs.declared.arguments.Arg.{Arg}
use Rattle.handler_shapes.specs.BodySlots.{takes_body}
use Rattle.descriptors.specs.declared.table.Definition.{Definition}
use Rattle.api_extract.specs.declared.extract_error.ExtractError.{ExtractError}
use Rattle.api_extract.specs.declared.extract_error.ExtractError.TheVariants as errors
use Rattle.api_extract.specs.Answers.{IsGiven}
use Rattle.api_extract.specs.Denotes.{GivenArgs, Terms, args_by, terms}
use Rattle.api_extract.specs.Extraction.{AsksForBody, ComesOf, ComesTo, IsCutShort, IsOfReading, IsPushed, ReadsFor}
use Rattle.api_extract.specs.Extraction.{extracted, plainly_told, reads_body, shared_told, slot_extracted}
use Rattle.api_extract.specs.Extraction.{slot_given, takes_stream}
use Rattle.api_extract.specs.Refusals.{GivenArg}
use Rattle.api_extract.proofs.FrontSlots.{IsBodyAlone, OnlyBodies, TakesNone, any_behind, given_joined, keeps_front}
use Rattle.api_extract.proofs.FrontSlots.{reads_only, streams_only, takes_only}
use Rattle.api_extract.proofs.GivenAnswers.{given_comes, given_not_reading, given_or_ran_out}
use Rattle.api_extract.proofs.NoFaults.{args_not_reading, slot_tells}
use Rattle.api_extract.proofs.SlotLists.{all_before, args_before, behind, error_behind, none_behind, one_arg, one_error}

-- ---- the slots before the body, which take none, and what stands behind them

pub record ArePartedAs (slots front rest : List Slot) : Type 0 where
  pub none : AllByRecursion TakesNone front
  pub joined : slots ≡ front ++ rest
  pub alone : IsBodyAlone rest

-- the slot that takes the body, if there is one
abbrev pub one_or_none : {X : Type 0} → (X → Slot) → Option X → List Slot
one_or_none slot_of None = []
one_or_none slot_of (Some last) = slot_of last ∷ []

module _ {X : Type 0} (slot_of : X → Slot) (slots front : List Slot) where
  parted : (last : Option X) → All TakesNone front
      → MatchOption last (slots ≡ front) (λ last. slots ≡ front ++ slot_of last ∷ [])
      → IfSome last (λ last. takes_body (slot_of last) ≡ true)
      → ArePartedAs slots front (one_or_none slot_of last)
  parted None none joined takes =
      record { none = recursion_from_All TakesNone front none; joined = joined ∙ sym (append-nil front); alone = tt }
  parted (Some last) none joined takes =
      record { none = recursion_from_All TakesNone front none; joined = joined; alone = takes }

module _ (slots front rest : List Slot) (parts : ArePartedAs slots front rest) where
  pub any_joined : (test : Slot → Bool) → OnlyBodies test → list_any test slots ≡ list_any test rest
  any_joined test only = ap (list_any test) parts.joined ∙ any_behind test only front rest parts.none

  pub shared_joined : (table : List Definition) (request : Request)
      → shared_told table slots request ≡ args_by (plainly_told table request) front
  shared_joined table request =
      ap (λ (some : List Slot). args_by (plainly_told table request)
      (filter (λ slot. not (takes_body slot)) some)) parts.joined
      ∙ ap (args_by (plainly_told table request)) (keeps_front front rest parts.none parts.alone)

  pub all_joined : (terms : Terms) (request : Request) (read : Result (List ℕ) BodyError) (body : BodyState)
      → args_by (slot_given terms request read body) slots
      ≡ behind (args_by (plainly_told terms.table request) front)
      (args_by (slot_given terms request read body) rest)
  all_joined terms request read body =
      ap (args_by (slot_given terms request read body)) parts.joined
      ∙ given_joined terms request read body front rest parts.none

-- ---- the slots before the body give an error, which is the answer

pub record IsToldInFront (table : List Definition) (request : Request) (slots : List Slot)
    (result : GivenArgs) : Type 0 where
  pub front : List Slot
  pub rest : List Slot
  pub parts : ArePartedAs slots front rest
  pub error : IsErr result
  pub given : IsGiven result (args_by (plainly_told table request) front)

error_first : (some rest : GivenArgs) → IsErr some → behind some rest ≡ some
error_first (Ok args) rest error = absurd (cc error)
error_first (Err e) rest error = refl

err_not_ok : (r : GivenArgs) → IsErr r → IsOk r → ⊥
err_not_ok (Ok args) error ok = cc error
err_not_ok (Err e) error ok = cc ok

module _ (table : List Definition) (request : Request) (slots : List Slot) (result : GivenArgs)
    (h : IsToldInFront table request slots result) where
  abbrev told : GivenArgs
  told = args_by (plainly_told table request) h.front

  pub front_comes : (kind : ApiEndpointBodyContentType) (limit budget : ℕ) (body : BodyState)
      → ComesTo result (extracted (terms table kind limit budget) slots request body)
  front_comes kind limit budget body =
      let rest = args_by (slot_extracted (terms table kind limit budget) request body) h.rest in
      elim (given_comes result told h.given) [
        | inl cut ↦ inl cut
        | inr is ↦ inr (sym (
            all_joined slots h.front h.rest h.parts (terms table kind limit budget) request
            (whole limit budget (frames_of body)) body
            ∙ ap (λ (some : GivenArgs). behind some rest) (sym is) ∙ error_first result rest h.error))
      ]

  pub front_early : (other : ExtractError) → shared_told table slots request ≡ Err other
      → (result ≡ Err other) ⊎ (result ≡ Err errors.OutOfMemory)
  front_early other e =
      elim (given_or_ran_out result told h.given) [
        | inl is ↦ inl (sym is ∙ sym (shared_joined slots h.front h.rest h.parts table request) ∙ e)
        | inr ran_out ↦ inr ran_out
      ]

  pub front_read : (limit budget : ℕ) (old new : Option (List Frame)) → IsOk (shared_told table slots request)
      → ReadsFor limit budget old new result
  front_read limit budget old new ok =
      elim (given_or_ran_out result told h.given) [
        | inl is ↦ absurd (err_not_ok result h.error
            (subst IsOk (shared_joined slots h.front h.rest h.parts table request ∙ is) ok))
        | inr ran_out ↦ subst (λ (r : GivenArgs). ReadsFor limit budget old new r) (sym ran_out) tt
      ]

  pub front_not_reading : {P : Type 0} → IsErrAnd result IsOfReading → P
  front_not_reading e =
      absurd (
      given_not_reading result told h.given
      (args_not_reading (plainly_told table request)
      (slot_tells (terms table Bytes 0 0) (wire_of request []) (never_failing [])) h.front) e)

-- ---- the slots before the body give arguments

pub record AreGivenInFront (table : List Definition) (request : Request) (slots rest : List Slot)
    (args : List Arg) : Type 0 where
  pub front : List Slot
  pub parts : ArePartedAs slots front rest
  pub given : args_by (plainly_told table request) front ≡ Ok args

module _ (table : List Definition) (request : Request) (slots rest : List Slot) (args : List Arg)
    (h : AreGivenInFront table request slots rest args) where
  given_shared : shared_told table slots request ≡ Ok args
  given_shared = shared_joined slots h.front rest h.parts table request ∙ h.given

  given_all : (kind : ApiEndpointBodyContentType) (limit budget : ℕ) (body : BodyState)
      → extracted (terms table kind limit budget) slots request body
      ≡ args_before args (args_by (slot_extracted (terms table kind limit budget) request body) rest)
  given_all kind limit budget body =
      all_joined slots h.front rest h.parts (terms table kind limit budget) request
      (whole limit budget (frames_of body)) body
      ∙ ap (λ (some : GivenArgs). behind some
      (args_by (slot_extracted (terms table kind limit budget) request body) rest)) h.given

  -- none of them is refused
  pub given_early : {P : Type 0} (other : ExtractError) → shared_told table slots request ≡ Err other → P
  given_early other e = absurd (cc (given_shared, e))

  given_ok : IsOk (shared_told table slots request)
  given_ok = ap is_ok given_shared

-- ---- and no slot is left

module _ (table : List Definition) (request : Request) (slots : List Slot) (args : List Arg)
    (h : AreGivenInFront table request slots [] args) where
  pub all_come : (kind : ApiEndpointBodyContentType) (limit budget : ℕ) (body : BodyState)
      → ComesTo (Ok args) (extracted (terms table kind limit budget) slots request body)
  all_come kind limit budget body =
      inr (sym (given_all table request slots [] args h kind limit budget body ∙ none_behind args))

  pub no_reader : {P : Type 0} → IsTrue (list_any reads_body slots) → P
  no_reader reads = absurd (cc (any_joined slots h.front [] h.parts reads_body reads_only, reads))

  pub no_stream : {P : Type 0} → IsTrue (list_any takes_stream slots) → P
  no_stream streams = absurd (cc (any_joined slots h.front [] h.parts takes_stream streams_only, streams))

-- ---- or the slot that takes the body, whose answer is pushed behind them

cut_same : (T U : Type 0) (error : ExtractError) → IsCutShort {T = T} (Err error) → IsCutShort {T = U} (Err error)
cut_same T U (errors.Refused fault message) h = h
cut_same T U errors.BodyFault h = h
cut_same T U (errors.BodyTooLarge sum) h = h
cut_same T U (errors.FrameBudget count) h = h
cut_same T U errors.OutOfMemory h = h

pushed_comes : (given : Slot → GivenArg) (slot : Slot) (args : List Arg) (last : GivenArg) (result : GivenArgs)
    (all : GivenArgs)
    → all ≡ args_before args (args_by given (slot ∷ [])) → ComesTo last (given slot) → IsPushed args last result
    → ComesTo result all
pushed_comes given slot args (Ok arg) result all e (inl cut) pushed = absurd cut
pushed_comes given slot args (Ok arg) result all e (inr is) (inl pushed) =
    inr (pushed ∙ sym (e ∙ ap (args_before args) (one_arg given slot arg (sym is)) ∙ all_before args (arg ∷ [])))
pushed_comes given slot args (Ok arg) result all e (inr is) (inr ran_out) = inl (subst IsCutShort (sym ran_out) tt)
pushed_comes given slot args (Err error) result all e (inl cut) pushed =
    inl (subst IsCutShort (sym pushed) (cut_same Arg (List Arg) error cut))
pushed_comes given slot args (Err error) result all e (inr is) pushed =
    inr (pushed ∙ sym (e ∙ ap (args_before args) (one_error given slot error (sym is)) ∙ error_behind args error))

-- the answer has this fault where that of the slot has it, and an argument only where that has one
pushed_fault : (args : List Arg) (last : GivenArg) (result : GivenArgs) → IsPushed args last result
    → IsErrOf result errors.BodyFault → IsErrOf last errors.BodyFault
pushed_fault args (Ok arg) result (inl pushed) e = absurd (cc (pushed, e))
pushed_fault args (Ok arg) result (inr ran_out) e = absurd (cc (ran_out, e))
pushed_fault args (Err error) result pushed e = let same : error ≡ errors.BodyFault = cc (pushed, e) in ap Err same

fault_pushed : (args : List Arg) (last : GivenArg) (result : GivenArgs) → IsPushed args last result
    → IsErrOf last errors.BodyFault → IsErrOf result errors.BodyFault
fault_pushed args (Ok arg) result pushed e = absurd (cc e)
fault_pushed args (Err error) result pushed e = let same : error ≡ errors.BodyFault = cc e in pushed ∙ ap Err same

-- an error of reading is that of the slot, and so is what the answer tells of the frames
pushed_reading : (args : List Arg) (last : GivenArg) (result : GivenArgs) → IsPushed args last result
    → IsErrAnd result IsOfReading → IsErrAnd last IsOfReading
pushed_reading args (Ok arg) result (inl pushed) e = subst (λ (r : GivenArgs). IsErrAnd r IsOfReading) pushed e
pushed_reading args (Ok arg) result (inr ran_out) e = subst (λ (r : GivenArgs). IsErrAnd r IsOfReading) ran_out e
pushed_reading args (Err error) result pushed e = subst (λ (r : GivenArgs). IsErrAnd r IsOfReading) pushed e

module _ (limit budget : ℕ) (old new : Option (List Frame)) where
  read_same : (T U : Type 0) (error : ExtractError) → ReadsFor {T = T} limit budget old new (Err error)
      → ReadsFor {T = U} limit budget old new (Err error)
  read_same T U (errors.Refused fault message) h = h
  read_same T U errors.BodyFault h = h
  read_same T U (errors.BodyTooLarge sum) h = h
  read_same T U (errors.FrameBudget count) h = h
  read_same T U errors.OutOfMemory h = h

  pushed_read : (args : List Arg) (last : GivenArg) (result : GivenArgs) → IsPushed args last result
      → ReadsFor limit budget old new last → ReadsFor limit budget old new result
  pushed_read args (Ok arg) result (inl pushed) h =
      subst (λ (r : GivenArgs). ReadsFor limit budget old new r) (sym pushed) h
  pushed_read args (Ok arg) result (inr ran_out) h =
      subst (λ (r : GivenArgs). ReadsFor limit budget old new r) (sym ran_out) tt
  pushed_read args (Err error) result pushed h =
      subst (λ (r : GivenArgs). ReadsFor limit budget old new r) (sym pushed) (read_same Arg (List Arg) error h)

ok_pushed : (P : Type 0) (args : List Arg) (last : GivenArg) (result : GivenArgs) → IsPushed args last result
    → OnOk last P → OnOk result P
ok_pushed P args (Ok arg) result (inl pushed) h = subst (λ (r : GivenArgs). OnOk r P) (sym pushed) h
ok_pushed P args (Ok arg) result (inr ran_out) h = subst (λ (r : GivenArgs). OnOk r P) (sym ran_out) tt
ok_pushed P args (Err error) result pushed h = subst (λ (r : GivenArgs). OnOk r P) (sym pushed) tt

pub record IsAnsweredBehind (table : List Definition) (request : Request) (slots : List Slot) (slot : Slot)
    (last : GivenArg) (result : GivenArgs) : Type 0 where
  pub args : List Arg
  pub front : AreGivenInFront table request slots (slot ∷ []) args
  pub pushed : IsPushed args last result

module _ (table : List Definition) (request : Request) (slots : List Slot) (slot : Slot) (last : GivenArg)
    (result : GivenArgs) (h : IsAnsweredBehind table request slots slot last result) where
  last_alone : (test : Slot → Bool) → OnlyBodies test → list_any test slots ≡ test slot
  last_alone test only = any_joined slots h.front.front (slot ∷ []) h.front.parts test only ∙ or-false (test slot)

  pub last_comes : (kind : ApiEndpointBodyContentType) (limit budget : ℕ) (body : BodyState)
      → ComesTo last (slot_extracted (terms table kind limit budget) request body slot)
      → ComesTo result (extracted (terms table kind limit budget) slots request body)
  last_comes kind limit budget body comes =
      pushed_comes (slot_extracted (terms table kind limit budget) request body) slot h.args last result
      (extracted (terms table kind limit budget) slots request body)
      (given_all table request slots (slot ∷ []) h.args h.front kind limit budget body) comes h.pushed

  pub last_came : (kind : ApiEndpointBodyContentType) (limit budget : ℕ) (old new : SourceState)
      → ComesOf budget (takes_stream slot) old new
      (λ body. slot_extracted (terms table kind limit budget) request body slot) last
      → ComesOf budget (list_any takes_stream slots) old new
      (extracted (terms table kind limit budget) slots request) result
  last_came kind limit budget old new came = record {
    body = came.body;
    taken = came.taken;
    most = came.most;
    answer = last_comes kind limit budget came.body came.answer;
    gathers =
        λ streams. ok_pushed (GathersInto budget old new came.body) h.args last result h.pushed
        (came.gathers (sym (last_alone takes_stream streams_only) ∙ streams));
  }

  pub last_asked : (IsErrAnd last IsOfReading → reads_body slot ≡ true) → IsErrAnd result IsOfReading
      → AsksForBody table slots request
  last_asked reads e = record {
    reads = last_alone reads_body reads_only ∙ reads (pushed_reading h.args last result h.pushed e);
    shared = given_ok table request slots (slot ∷ []) h.args h.front;
  }

  pub last_read : (limit budget : ℕ) (old new : Option (List Frame))
      → (reads_body slot ≡ true → ReadsFor limit budget old new last) → IsTrue (list_any reads_body slots)
      → ReadsFor limit budget old new result
  last_read limit budget old new read reads =
      pushed_read limit budget old new h.args last result h.pushed
      (read (sym (last_alone reads_body reads_only) ∙ reads))

  pub last_fault : {P : Type 0} → (IsErrOf last errors.BodyFault → P) → IsErrOf result errors.BodyFault → P
  last_fault failed e = failed (pushed_fault h.args last result h.pushed e)

  pub last_counts : {P : Type 0} → ((IsErrOf last errors.BodyFault → ⊥) → (takes_stream slot ≡ true) ⊎ P)
      → (IsErrOf result errors.BodyFault → ⊥) → IsTrue (list_any takes_stream slots) ⊎ P
  last_counts counts none =
      elim (counts (λ e. none (fault_pushed h.args last result h.pushed e))) [
        | inl streams ↦ inl (last_alone takes_stream streams_only ∙ streams)
        | inr same ↦ inr same
      ]

  pub last_most : {P Q : Type 0} → (takes_stream slot ≡ true) × P ⊎ Q → IsTrue (list_any takes_stream slots) × P ⊎ Q
  last_most most =
      elim most [
        | inl whole ↦ inl (last_alone takes_stream streams_only ∙ whole.0, whole.1)
        | inr few ↦ inr few
      ]

  pub last_moved : {P : Type 0} → (takes_stream slot ≡ true → P)
      → OnOk result (IsTrue (list_any takes_stream slots) → P)
  last_moved {P} moved = by_result result
    where
      by_result : (r : GivenArgs) → OnOk r (IsTrue (list_any takes_stream slots) → P)
      by_result (Ok some) = λ streams. moved (sym (last_alone takes_stream streams_only) ∙ streams)
      by_result (Err error) = tt

  pub last_unasked : {P : Type 0} → list_any takes_body slots ≡ false → P
  last_unasked none =
      let takes : takes_body slot ≡ true = h.front.parts.alone in
      absurd (cc (last_alone takes_body takes_only, takes, none))

  pub last_early : {P : Type 0} (other : ExtractError) → shared_told table slots request ≡ Err other → P
  last_early other e = given_early table request slots (slot ∷ []) h.args h.front other e

-- ---- the one or the other, by how the slots are parted

module _ {X : Type 0} (slot_of : X → Slot) (table : List Definition) (request : Request)
    (slots whole front : List Slot) (last : Option X) (same : whole ≡ slots) (none : All TakesNone front)
    (joined : MatchOption last (whole ≡ front) (λ last. whole ≡ front ++ slot_of last ∷ []))
    (takes : IfSome last (λ last. takes_body (slot_of last) ≡ true)) where
  parts_of : ArePartedAs slots front (one_or_none slot_of last)
  parts_of =
      subst (λ (some : List Slot). ArePartedAs some front (one_or_none slot_of last)) same
      (parted slot_of whole front last none joined takes)

  pub told_in_front : (result : GivenArgs) → IsErr result → IsGiven result (args_by (plainly_told table request) front)
      → IsToldInFront table request slots result
  told_in_front result error given =
      record { front = front; rest = one_or_none slot_of last; parts = parts_of; error = error; given = given }

  pub given_in_front : (args : List Arg) (is : Option X) → last ≡ is
      → args_by (plainly_told table request) front ≡ Ok args
      → AreGivenInFront table request slots (one_or_none slot_of is) args
  given_in_front args is e given =
      record {
        front = front;
        parts = subst
            (λ (o : Option X). ArePartedAs slots front (one_or_none slot_of o)) e parts_of;
        given = given;
      }
