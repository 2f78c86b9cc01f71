-- Frames that are taken one by one.
use Rattle.std.proofs.Common.{◌≡◌, ℕ, ◌+◌, ◌≤◌, List, [], ◌∷◌, ◌++◌, length, arith, sym, ap, ◌∙◌, append-nil, append_assoc}
use Rattle.std.specs.Prelude.{Option, Some, None}
use Rattle.std.proofs.lemmas.List.{length-append}
use Rattle.std.proofs.lemmas.List.Concat.{flat_map-append}
use Rattle.http_bodies.specs.declared.frame.Frame.{Frame}
use Rattle.http_bodies.specs.Frames.{data_of, all_data}
use Rattle.http_bodies.specs.Sources.{CalledFor, TakesFrames}

-- behind some frames one more was taken
pub takes-more : (start now after : Option (List Frame)) (came : List Frame) (frame : Frame)
    → TakesFrames start came now → TakesFrames now (frame ∷ []) after → TakesFrames start (came ++ frame ∷ []) after
takes-more None None after came frame e next = next
takes-more None (Some left) after came frame e next = absurd (cc e)
takes-more (Some before) None after came frame e next = absurd e
takes-more (Some before) (Some left) None came frame e next = absurd next
takes-more (Some before) (Some left) (Some rest) came frame e next =
    e ∙ ap (λ (frames : List Frame). came ++ frames) next ∙ sym (append_assoc came (frame ∷ []) rest)

-- and has the content behind theirs
pub all_data-more : (came : List Frame) (frame : Frame) → all_data (came ++ frame ∷ []) ≡ all_data came ++ data_of frame
all_data-more came frame =
    flat_map-append data_of came (frame ∷ [])
    ∙ ap (λ (bytes : List ℕ). all_data came ++ bytes) (append-nil (data_of frame))

-- one call for each of the frames that came, and one that took none
pub called_for : (start now after : Option (List Frame)) (came : List Frame) (old new : ℕ)
    → TakesFrames start came now → after ≡ now → new ≤ old + length came + 1 → CalledFor start after old new
called_for None now after came old new taken same few = tt
called_for (Some before) None after came old new taken same few = absurd taken
called_for (Some before) (Some left) None came old new taken same few = absurd (cc same)
called_for (Some before) (Some left) (Some rest) came old new taken same few =
    let is : rest ≡ left = cc same in
    let back = ap length is in
    let front = ap length taken in
    omega (arith, length-append came left)

-- one call for each of the frames that came, and behind them others for those that came then
pub called_behind : (start now after : Option (List Frame)) (came : List Frame) (old mid new : ℕ)
    → TakesFrames start came now → mid ≤ old + length came → CalledFor now after mid new → CalledFor start after old new
called_behind None now after came old mid new taken few behind = tt
called_behind (Some before) None after came old mid new taken few behind = absurd taken
called_behind (Some before) (Some left) None came old mid new taken few behind = tt
called_behind (Some before) (Some left) (Some rest) came old mid new taken few behind =
    let front = ap length taken in
    omega (arith, behind, length-append came left)

-- no call
pub called_never : (left : Option (List Frame)) (calls : ℕ) → CalledFor left left calls calls
called_never None calls = tt
called_never (Some frames) calls = omega arith
