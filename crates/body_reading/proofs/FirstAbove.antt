-- The least number of first frames whose content passes a limit.
use Rattle.std.proofs.Common.{◌≡◌, ℕ, ◌+◌, ◌<◌, ◌≤◌, zero, suc, inl, inr, List, [], ◌∷◌, ◌++◌, length, take, drop}
use Rattle.std.proofs.Common.{arith, ◌∙◌, ap, refl, true, false}
use Rattle.std.specs.Prelude.{◌⊎◌, Some, None, nat_lt}
use Rattle.std.specs.List.{find}
use Rattle.std.proofs.lemmas.Bool.Decides.{nat_tests}
use Rattle.std.proofs.lemmas.List.{length-append, take-append-drop, take-append-le}
use Rattle.std.proofs.lemmas.List.Concat.{flat_map-append}
use Rattle.std.proofs.Math.Seq.{take-append-add}
use Rattle.http_bodies.proofs.CallerLemmas.{all_data-more}
use Rattle.http_bodies.specs.declared.frame.Frame.{Frame}
use Rattle.http_bodies.specs.Frames.{data_of, all_data}
use Rattle.body_reading.specs.Whole.{IsFirstAbove, sums}

pub below_or : (m n : ℕ) → (m < n) ⊎ (n ≤ m)
below_or m zero = inr (omega arith)
below_or zero (suc n) = inl (omega arith)
below_or (suc m) (suc n) = elim (below_or m n) [ inl h ↦ inl (omega arith) | inr h ↦ inr (omega arith) ]

pub data_length-append : (xs ys : List Frame)
    → length (all_data (xs ++ ys)) ≡ length (all_data xs) + length (all_data ys)
data_length-append xs ys = ap length (flat_map-append data_of xs ys) ∙ length-append (all_data xs) (all_data ys)

pub data_length-more : (came : List Frame) (frame : Frame)
    → length (all_data (came ++ frame ∷ [])) ≡ length (all_data came) + length (data_of frame)
data_length-more came frame = ap length (all_data-more came frame) ∙ length-append (all_data came) (data_of frame)

data_length-take : (n : ℕ) (frames : List Frame) → length (all_data (take n frames)) ≤ length (all_data frames)
data_length-take n frames =
    let whole = ap (λ (xs : List Frame). length (all_data xs)) (take-append-drop n frames) in
    omega (arith, whole, data_length-append (take n frames) (drop n frames))

-- the frame with which the content passes the limit, and those before and behind it
pub record PassesAt (limit before : ℕ) (frames : List Frame) : Type 0 where
  pub came : List Frame
  pub frame : Frame
  pub more : List Frame
  pub frames_are : frames ≡ came ++ frame ∷ more
  pub below : before + length (all_data came) ≤ limit
  pub above : limit < before + length (all_data came) + length (data_of frame)

passes_first : (limit before : ℕ) (f : Frame) (fs : List Frame) → before ≤ limit
    → limit < before + length (data_of f) → PassesAt limit before (f ∷ fs)
passes_first limit before f fs small above =
    record { came = []; frame = f; more = fs; frames_are = refl; below = omega arith; above = omega arith }

passes_later : (limit before : ℕ) (f : Frame) (fs : List Frame)
    → PassesAt limit (before + length (data_of f)) fs → PassesAt limit before (f ∷ fs)
passes_later limit before f fs p =
    let size = length-append (data_of f) (all_data p.came) in
    let low = p.below in
    let high = p.above in
    record {
      came = f ∷ p.came;
      frame = p.frame;
      more = p.more;
      frames_are = ap (λ (xs : List Frame). f ∷ xs) p.frames_are;
      below = omega (arith, size);
      above = omega (arith, size);
    }

-- the content of frames passes the limit or not
pub passes_or_not : (limit before : ℕ) (frames : List Frame) → before ≤ limit
    → (before + length (all_data frames) ≤ limit) ⊎ PassesAt limit before frames
passes_or_not limit before [] small = inl (omega arith)
passes_or_not limit before (f ∷ fs) small =
    elim (below_or limit (before + length (data_of f))) [
      | inl above ↦ inr (passes_first limit before f fs small above)
      | inr low ↦ elim (passes_or_not limit (before + length (data_of f)) fs low) [
        | inl all ↦ inl (let size = length-append (data_of f) (all_data fs) in omega (arith, size))
        | inr p ↦ inr (passes_later limit before f fs p)
      ]
    ]

-- no sum passes the limit
pub find-none : (limit before : ℕ) (frames : List Frame) → before + length (all_data frames) ≤ limit
    → find (nat_lt limit) (sums before frames) ≡ None
find-none limit before [] small = refl
find-none limit before (f ∷ fs) small =
    let size = length-append (data_of f) (all_data fs) in
    let rest : before + length (data_of f) + length (all_data fs) ≤ limit = omega (arith, size) in
    let below : nat_lt limit (before + length (data_of f)) ≡ false = grind (arith, nat_tests, rest) in
    rw below (find-none limit (before + length (data_of f)) fs rest)

-- the first sum that passes the limit
pub find-some : (limit before : ℕ) (came : List Frame) (f : Frame) (more : List Frame)
    → before + length (all_data came) ≤ limit → limit < before + length (all_data came) + length (data_of f)
    → find (nat_lt limit) (sums before (came ++ f ∷ more)) ≡ Some (before + length (all_data came) + length (data_of f))
find-some limit before [] f more low high =
    let above : nat_lt limit (before + length (data_of f)) ≡ true = grind (arith, nat_tests) in
    let same : before + length (data_of f) ≡ before + length (all_data []) + length (data_of f) = omega arith in
    rw above (ap Some same)
find-some limit before (g ∷ gs) f more low high =
    let size = length-append (data_of g) (all_data gs) in
    let lower : before + length (data_of g) + length (all_data gs) ≤ limit = omega (arith, size) in
    let below : nat_lt limit (before + length (data_of g)) ≡ false = grind (arith, nat_tests, lower) in
    let higher : limit < before + length (data_of g) + length (all_data gs) + length (data_of f) = omega (arith, size) in
    let same : before + length (data_of g) + length (all_data gs) + length (data_of f)
    ≡ before + length (all_data (g ∷ gs)) + length (data_of f) = omega (arith, size) in
    rw below (find-some limit (before + length (data_of g)) gs f more lower higher ∙ ap Some same)

-- the first frames up to one that stands behind others
pub take_front : (came : List Frame) (f : Frame) (more : List Frame)
    → take (length came + 1) (came ++ f ∷ more) ≡ came ++ f ∷ []
take_front came f more = take-append-add came (f ∷ more) 1

-- the frames up to one with which the content passes the limit are the least that do
pub first_above : (limit : ℕ) (came : List Frame) (f : Frame) (more : List Frame)
    → length (all_data came) ≤ limit → limit < length (all_data came) + length (data_of f)
    → IsFirstAbove limit (came ++ f ∷ more) (length came + 1)
first_above limit came f more low high =
    let size : length (all_data (take (length came + 1) (came ++ f ∷ more))) ≡ length (all_data came) + length (data_of f)
    = ap (λ (xs : List Frame). length (all_data xs)) (take_front came f more) ∙ data_length-more came f in
    record {
      within = omega (arith, length-append came (f ∷ more));
      above = omega (arith, size);
      least = λ fewer less.
          let within : fewer ≤ length came = omega arith in
          let front = ap (λ (xs : List Frame). length (all_data xs)) (take-append-le fewer came (f ∷ more) within) in
          omega (arith, front, data_length-take fewer came);
    }

-- a frame that has so many before it
pub record StandsBehind (count : ℕ) (frames : List Frame) : Type 0 where
  pub frame : Frame
  pub more : List Frame
  pub frames_are : frames ≡ take count frames ++ frame ∷ more

pub stands_behind : (count : ℕ) (frames : List Frame) → count < length frames → StandsBehind count frames
stands_behind count [] less = absurd (omega arith)
stands_behind zero (f ∷ fs) less = record { frame = f; more = fs; frames_are = refl }
stands_behind (suc count) (f ∷ fs) less =
    let fewer : count < length fs = omega arith in
    let behind = stands_behind count fs fewer in
    record { frame = behind.frame; more = behind.more; frames_are = ap (λ (xs : List Frame). f ∷ xs) behind.frames_are }
