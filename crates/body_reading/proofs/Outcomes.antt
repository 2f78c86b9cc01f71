-- What a whole body gives, and its cause in the frames.
use Rattle.std.proofs.Common.{◌≡◌, ℕ, ◌+◌, ◌-◌, ◌^◌, ◌<◌, ◌≤◌, min, zero, suc, inl, inr, List, [], ◌∷◌, ◌++◌, length, take, drop}
use Rattle.std.proofs.Common.{arith, sym, ◌∙◌, ap, refl, subst, true, false, append_assoc, append-nil}
use Rattle.std.specs.Prelude.{◌⊎◌, Option, Some, None, Result, Ok, Err, IfSome, OnOk, nat_lt}
use Rattle.std.specs.List.{find}
use Rattle.std.proofs.lemmas.Bool.Decides.{nat_tests}
use Rattle.std.proofs.lemmas.List.{length-append, length-take, length-take-le, take_all, take-append-drop, take-append-le}
use Rattle.std.proofs.Math.Seq.{take-append-add}
use Rattle.http_bodies.specs.declared.frame.Frame.{Frame}
use Rattle.http_bodies.specs.Dumping.{data_size}
use Rattle.http_bodies.specs.Frames.{data_of, all_data}
use Rattle.http_bodies.specs.Sources.{IsAtEnd}
use Rattle.body_reading.specs.declared.whole.BodyError.{BodyError}
use Rattle.body_reading.specs.declared.whole.BodyError.TheVariants as body
use Rattle.body_reading.specs.Whole.{HasCause, IsCutShort, IsFirstAbove, Reads, sums, whole}
use Rattle.body_reading.proofs.FirstAbove.{PassesAt, below_or, data_length-more, find-none, find-some}
use Rattle.body_reading.proofs.FirstAbove.{first_above, passes_or_not, stands_behind, take_front}

-- a body within limit and budget
pub whole_read : (limit budget : ℕ) (frames : List Frame) → length frames ≤ budget → length (all_data frames) ≤ limit
    → whole limit budget frames ≡ Ok (all_data frames)
whole_read limit budget frames few small =
    let fits : length frames ≤ budget + 1 = omega arith in
    let all : find (nat_lt limit) (sums 0 (take (budget + 1) frames)) ≡ None
    = rw (take_all (budget + 1) frames fits) (find-none limit 0 frames (omega arith)) in
    let over : nat_lt budget (length frames) ≡ false = grind (arith, nat_tests) in
    rw (all, over) refl

-- a body whose content passes the limit with a frame that is allowed, or the one behind these
whole_large : (limit budget : ℕ) (came : List Frame) (f : Frame) (more : List Frame) → length came ≤ budget
    → length (all_data came) ≤ limit → limit < length (all_data came) + length (data_of f)
    → whole limit budget (came ++ f ∷ more) ≡ Err (body.BodyTooLarge (data_size (came ++ f ∷ [])))
whole_large limit budget came f more few low high =
    let count : budget + 1 ≡ length came + suc (budget - length came) = omega arith in
    let front : take (budget + 1) (came ++ f ∷ more) ≡ came ++ f ∷ take (budget - length came) more
    = ap (λ n. take n (came ++ f ∷ more)) count ∙ take-append-add came (f ∷ more) (suc (budget - length came)) in
    let found : find (nat_lt limit) (sums 0 (take (budget + 1) (came ++ f ∷ more)))
    ≡ Some (0 + length (all_data came) + length (data_of f))
    = rw front (find-some limit 0 came f (take (budget - length came) more) (omega arith) (omega arith)) in
    let size : min (0 + length (all_data came) + length (data_of f)) (2 ^ 64 - 1) ≡ data_size (came ++ f ∷ [])
    = omega (arith, data_length-more came f) in
    rw found (ap (λ n. Err (body.BodyTooLarge n)) size)

whole_first_above : (limit budget count : ℕ) (frames : List Frame) → count ≤ budget + 1 → IsFirstAbove limit frames count
    → whole limit budget frames ≡ Err (body.BodyTooLarge (data_size (take count frames)))
whole_first_above limit budget zero frames within first = absurd (let above = first.above in omega arith)
whole_first_above limit budget (suc k) frames within first =
    let few = first.within in
    let fewer : k < length frames = omega arith in
    let fits : k ≤ length frames = omega arith in
    let at = stands_behind k frames fewer in
    let came_length : length (take k frames) ≡ k = length-take-le k frames fits in
    let more : suc k ≡ length (take k frames) + 1 = omega (arith, came_length) in
    let front : take (suc k) frames ≡ take k frames ++ at.frame ∷ []
    = ap (λ (xs : List Frame). take (suc k) xs) at.frames_are
    ∙ ap (λ n. take n (take k frames ++ at.frame ∷ at.more)) more ∙ take_front (take k frames) at.frame at.more in
    let size = ap (λ (xs : List Frame). length (all_data xs)) front in
    let above = first.above in
    let least : length (all_data (take k frames)) ≤ limit = first.least k (omega arith) in
    let allowed : length (take k frames) ≤ budget = omega (arith, came_length) in
    let passes : limit < length (all_data (take k frames)) + length (data_of at.frame)
    = omega (arith, size, data_length-more (take k frames) at.frame) in
    ap (whole limit budget) at.frames_are
    ∙ whole_large limit budget (take k frames) at.frame at.more allowed least passes
    ∙ ap (λ (xs : List Frame). Err (body.BodyTooLarge (data_size xs))) (sym front)

whole_over : (limit budget : ℕ) (frames : List Frame) → budget < length frames
    → length (all_data (take (budget + 1) frames)) ≤ limit
    → whole limit budget frames ≡ Err (body.FrameBudget (budget + 1))
whole_over limit budget frames many small =
    let all : find (nat_lt limit) (sums 0 (take (budget + 1) frames)) ≡ None
    = find-none limit 0 (take (budget + 1) frames) (omega arith) in
    let over : nat_lt budget (length frames) ≡ true = grind (arith, nat_tests) in
    rw (all, over) refl

-- an answer with a cause is the one that frames call for
pub cause_whole : (limit budget : ℕ) (frames : List Frame) (result : Result (List ℕ) BodyError)
    → HasCause limit budget frames result → result ≡ whole limit budget frames
cause_whole limit budget frames (Ok content) cause =
    let small = subst (λ (bytes : List ℕ). length bytes ≤ limit) cause.content_is cause.small in
    ap Ok cause.content_is ∙ sym (whole_read limit budget frames cause.few small)
cause_whole limit budget frames (Err (body.BodyTooLarge sum)) cause =
    ap (λ n. Err (body.BodyTooLarge n)) cause.sum_is
    ∙ sym (whole_first_above limit budget cause.count frames cause.within cause.first)
cause_whole limit budget frames (Err (body.FrameBudget count)) cause =
    ap (λ n. Err (body.FrameBudget n)) cause.count_is ∙ sym (whole_over limit budget frames cause.many cause.small)
cause_whole limit budget frames (Err body.BodyFault) cause = absurd cause
cause_whole limit budget frames (Err body.OutOfMemory) cause = absurd cause

-- the content of so many first frames passes the limit, with the last of them alone
large_cause : (limit budget : ℕ) (frames : List Frame) → PassesAt limit 0 (take (budget + 1) frames)
    → (result : Result (List ℕ) BodyError) × HasCause limit budget frames result
large_cause limit budget frames p =
    let frames_are : frames ≡ p.came ++ p.frame ∷ (p.more ++ drop (budget + 1) frames)
    = sym (take-append-drop (budget + 1) frames) ∙ ap (λ (xs : List Frame). xs ++ drop (budget + 1) frames) p.frames_are
    ∙ append_assoc p.came (p.frame ∷ p.more) (drop (budget + 1) frames) in
    let size = ap length p.frames_are in
    let low = p.below in
    let high = p.above in
    let first = first_above limit p.came p.frame (p.more ++ drop (budget + 1) frames) (omega arith) (omega arith) in (
      Err (body.BodyTooLarge (data_size (take (length p.came + 1) frames))),
      record {
        count = length p.came + 1;
        within = omega (arith, size, length-take (budget + 1) frames, length-append p.came (p.frame ∷ p.more));
        first = subst (λ (xs : List Frame). IsFirstAbove limit xs (length p.came + 1)) (sym frames_are) first;
        sum_is = refl;
      },
    )

small_cause : (limit budget : ℕ) (frames : List Frame) → length (all_data (take (budget + 1) frames)) ≤ limit
    → (result : Result (List ℕ) BodyError) × HasCause limit budget frames result
small_cause limit budget frames small =
    elim (below_or budget (length frames)) [
      | inl many ↦ (Err (body.FrameBudget (budget + 1)), record { count_is = refl; many = many; small = small })
      | inr few ↦ (
        Ok (all_data frames),
        record {
          content_is = refl;
          small = subst (λ (xs : List Frame). length (all_data xs) ≤ limit) (take_all (budget + 1) frames (omega arith)) small;
          few = few;
        },
      )
    ]

some_cause : (limit budget : ℕ) (frames : List Frame)
    → (result : Result (List ℕ) BodyError) × HasCause limit budget frames result
some_cause limit budget frames =
    elim (passes_or_not limit 0 (take (budget + 1) frames) (omega arith)) [
      | inl small ↦ small_cause limit budget frames (omega arith)
      | inr p ↦ large_cause limit budget frames p
    ]

-- the answer that frames call for has its cause in them
pub whole_cause : (limit budget : ℕ) (frames : List Frame) → HasCause limit budget frames (whole limit budget frames)
whole_cause limit budget frames =
    let some = some_cause limit budget frames in
    subst (λ (r : Result (List ℕ) BodyError). HasCause limit budget frames r)
    (cause_whole limit budget frames some.0 some.1) some.1

-- the cause in some first frames is one in all of them, where none is left behind an `Ok`
cause_in_all : (limit budget : ℕ) (came rest : List Frame) (result : Result (List ℕ) BodyError)
    → HasCause limit budget came result → ((content : List ℕ) → result ≡ Ok content → rest ≡ [])
    → HasCause limit budget (came ++ rest) result
cause_in_all limit budget came rest (Ok content) cause ended =
    let same : came ≡ came ++ rest
    = sym (append-nil came) ∙ ap (λ (xs : List Frame). came ++ xs) (sym (ended content refl)) in
    subst (λ (xs : List Frame). HasCause limit budget xs (Ok content)) same cause
cause_in_all limit budget came rest (Err (body.BodyTooLarge sum)) cause ended =
    let first = cause.first in
    let within = first.within in
    let front : (n : ℕ) → n ≤ length came → take n (came ++ rest) ≡ take n came = λ n h. take-append-le n came rest h in
    let size = ap (λ (xs : List Frame). length (all_data xs)) (front cause.count within) in
    let above = first.above in
    record {
      count = cause.count;
      within = cause.within;
      first = record {
        within = omega (arith, length-append came rest);
        above = omega (arith, size);
        least = λ fewer less.
            let few : fewer ≤ length came = omega arith in
            subst (λ (xs : List Frame). length (all_data xs) ≤ limit) (sym (front fewer few)) (first.least fewer less);
      };
      sum_is = cause.sum_is ∙ ap data_size (sym (front cause.count within));
    }
cause_in_all limit budget came rest (Err (body.FrameBudget count)) cause ended =
    let many = cause.many in
    let fits : budget + 1 ≤ length came = omega arith in
    record {
      count_is = cause.count_is;
      many = omega (arith, length-append came rest);
      small = subst (λ (xs : List Frame). length (all_data xs) ≤ limit) (sym (take-append-le (budget + 1) came rest fits)) cause.small;
    }
cause_in_all limit budget came rest (Err body.BodyFault) cause ended = cause
cause_in_all limit budget came rest (Err body.OutOfMemory) cause ended = cause

none_left : (rest : List Frame) (result : Result (List ℕ) BodyError) (content : List ℕ)
    → OnOk result (IsAtEnd (Some rest)) → result ≡ Ok content → rest ≡ []
none_left rest (Ok bytes) content ended e = ended
none_left rest (Err error) content ended e = absurd (cc e)

-- the answer on what came is the one that all frames call for
pub reads_whole : (limit budget : ℕ) (start after : Option (List Frame)) (result : Result (List ℕ) BodyError)
    → Reads limit budget start after result
    → IfSome start (λ frames. IsCutShort result ⊎ (result ≡ whole limit budget frames))
reads_whole limit budget None after result reads = tt
reads_whole limit budget (Some frames) None result reads = absurd reads.taken
reads_whole limit budget (Some frames) (Some rest) result reads =
    elim reads.cause [
      | inl cut ↦ inl cut
      | inr cause ↦ inr (
          cause_whole limit budget (reads.came ++ rest) result
          (cause_in_all limit budget reads.came rest result cause (λ content e. none_left rest result content reads.ended e))
          ∙ ap (whole limit budget) (sym reads.taken)
          )
    ]
