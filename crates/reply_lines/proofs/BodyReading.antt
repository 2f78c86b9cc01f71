-- The loop that reads the body of a response.
use Rattle.std.proofs.Common.{◌≡◌, ℕ, ◌+◌, ◌-◌, ◌^◌, ◌<◌, ◌≤◌, List, [], ◌∷◌, ◌++◌, length, inl, inr}
use Rattle.std.proofs.Common.{arith, sym, ap, ◌∙◌, refl, append-nil, append_assoc, below_more}
use Rattle.std.specs.Prelude.{◌⊎◌, ◌&&◌, ◌==◌, Some, IsTrue, IsFalse}
use Rattle.std.specs.List.{list_any}
use Rattle.std.proofs.lemmas.Bool.{cases_lt, le-ltb}
use Rattle.std.proofs.lemmas.List.{length-append}
use Rattle.http_bodies.proofs.CallerLemmas.{all_data-more, called_for}
use Rattle.http_bodies.specs.declared.frame.Frame.{Frame}
use Rattle.http_bodies.specs.Bodies.{BodyState, after_body_call, calls_of, failing, fails_next, frames_of, never_failing}
use Rattle.http_bodies.specs.Frames.{all_data, data_of}
use Rattle.http_bodies.specs.Memory.{is_failing, one_more}
use Rattle.http_bodies.specs.Sources.{CalledFor}
use Rattle.reply_lines.specs.ResponseBodies.{FailsWithin, IsReadWhole, NoneFails, TakesFirst, fails_after}

-- no call past the last value of a counter fails
past_last : (numbers : List ℕ) (number : ℕ) → 2 ^ 64 - 1 ≤ number → IsFalse (is_failing numbers number)
past_last numbers number last =
    ap (λ below. below && list_any (λ n. n == number) numbers) (le-ltb number (2 ^ 64 - 1) last)

-- so it is all one whether calls are counted past that value
counted_on : (numbers : List ℕ) (calls earlier : ℕ) → (calls < 2 ^ 64 - 1) ⊎ (2 ^ 64 - 1 ≤ calls)
    → is_failing numbers (one_more calls + earlier) ≡ is_failing numbers (calls + (1 + earlier))
counted_on numbers calls earlier (inl less) =
    let same : one_more calls + earlier ≡ calls + (1 + earlier) = omega arith in ap (is_failing numbers) same
counted_on numbers calls earlier (inr last) =
    past_last numbers (one_more calls + earlier) (omega arith)
    ∙ sym (past_last numbers (calls + (1 + earlier)) (omega arith))

-- a call after the next one is one call further on
after_next : (body : BodyState) (frames : List Frame) (earlier : ℕ)
    → fails_after (after_body_call body frames) earlier ≡ fails_after body (1 + earlier)
after_next (never_failing before) frames earlier = refl
after_next (failing memory) frames earlier =
    counted_on memory.failing memory.calls earlier (cases_lt memory.calls (2 ^ 64 - 1))

-- the next call is the one after none
after_none : (body : BodyState) → fails_next body ≡ fails_after body 0
after_none (never_failing frames) = refl
after_none (failing memory) =
    let same : memory.calls ≡ memory.calls + 0 = omega arith in ap (is_failing memory.failing) same

-- so many calls gave frames, with this content, and none failed
pub record IsReading (start now : BodyState) (content : List ℕ) (count : ℕ) : Type 0 where
  pub came : List Frame
  pub taken : frames_of start ≡ came ++ frames_of now
  pub counted : length came ≡ count
  pub content_is : content ≡ all_data came
  pub none_fails : NoneFails start count
  pub later : (earlier : ℕ) → fails_after now earlier ≡ fails_after start (count + earlier)

-- whether the next call fails, as it was counted at the start
next_counted : (start now : BodyState) (content : List ℕ) (count : ℕ) → IsReading start now content count
    → fails_after start count ≡ fails_next now
next_counted start now content count reading =
    let same : count ≡ count + 0 = omega arith in
    ap (fails_after start) same ∙ sym (after_none now ∙ reading.later 0)

none_fails_more : (start now : BodyState) (content : List ℕ) (count : ℕ) → IsReading start now content count
    → IsFalse (fails_next now) → NoneFails start (count + 1)
none_fails_more start now content count reading works =
    below_more (λ earlier. IsFalse (fails_after start earlier)) count reading.none_fails
    (next_counted start now content count reading ∙ works)

-- one frame more came
pub reading_more : (start now after : BodyState) (content : List ℕ) (count : ℕ) (frame : Frame)
    → IsReading start now content count → IsFalse (fails_next now) → frames_of now ≡ frame ∷ frames_of after
    → after ≡ after_body_call now (frames_of after) → IsReading start after (content ++ data_of frame) (count + 1)
reading_more start now after content count frame reading works gives called = record {
  came = reading.came ++ frame ∷ [];
  taken = reading.taken ∙ ap (λ (left : List Frame). reading.came ++ left) gives
      ∙ sym (append_assoc reading.came (frame ∷ []) (frames_of after));
  counted = let h = reading.counted in omega (arith, h, length-append reading.came (frame ∷ []));
  content_is = ap (λ (bytes : List ℕ). bytes ++ data_of frame) reading.content_is
      ∙ sym (all_data-more reading.came frame);
  none_fails = none_fails_more start now content count reading works;
  later = λ earlier.
      let same : count + (1 + earlier) ≡ (count + 1) + earlier = omega arith in
      ap (λ (body : BodyState). fails_after body earlier) called ∙ after_next now (frames_of after) earlier
      ∙ reading.later (1 + earlier) ∙ ap (fails_after start) same;
}

-- no frame was left
pub reading_ends : (start now : BodyState) (content : List ℕ) (count budget : ℕ) → IsReading start now content count
    → IsFalse (fails_next now) → frames_of now ≡ [] → count < budget + 1
    → IsReadWhole budget start × (content ≡ all_data (frames_of start))
reading_ends start now content count budget reading works none allowed =
    let all : frames_of start ≡ reading.came =
    reading.taken ∙ ap (λ (left : List Frame). reading.came ++ left) none ∙ append-nil reading.came in
    let size : length (frames_of start) ≡ count = ap length all ∙ reading.counted in (
      record {
        few = omega arith;
        none_fails = rw size (none_fails_more start now content count reading works);
      },
      reading.content_is ∙ sym (ap all_data all),
    )

-- the next call failed
pub reading_fails : (start now : BodyState) (content : List ℕ) (count budget : ℕ) → IsReading start now content count
    → IsTrue (fails_next now) → count < budget + 1 → FailsWithin budget start
reading_fails start now content count budget reading broken allowed =
    let counted = reading.counted in
    record {
      earlier = count;
      reached = omega (arith, ap length reading.taken, length-append reading.came (frames_of now));
      within = omega arith;
      fails = next_counted start now content count reading ∙ broken;
      first = reading.none_fails;
    }

-- the last call took no frame
pub reading_called : (start now after : BodyState) (content : List ℕ) (count : ℕ) → IsReading start now content count
    → frames_of after ≡ frames_of now → calls_of now ≤ calls_of start + count → calls_of after ≤ calls_of now + 1
    → CalledFor (Some (frames_of start)) (Some (frames_of after)) (calls_of start) (calls_of after)
reading_called start now after content count reading same few once =
    let counted = reading.counted in
    called_for (Some (frames_of start)) (Some (frames_of now)) (Some (frames_of after)) reading.came
    (calls_of start) (calls_of after) reading.taken (ap Some same) (omega arith)

pub reading_takes : (start now after : BodyState) (content : List ℕ) (count most : ℕ) → IsReading start now content count
    → frames_of after ≡ frames_of now → count ≤ most → TakesFirst most start after
reading_takes start now after content count most reading same allowed =
    let counted = reading.counted in
    record {
      came = reading.came;
      taken = reading.taken ∙ ap (λ (left : List Frame). reading.came ++ left) (sym same);
      few = omega arith;
    }
