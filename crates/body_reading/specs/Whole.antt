-- What a body that is read whole gives, by a limit on its content, a budget of frames, and the frames (of this library).
use Rattle.std.specs.Prelude.{ℕ, ◌≡◌, ◌⊎◌, ◌+◌, ◌-◌, ◌^◌, ◌<◌, ◌≤◌, min, nat_lt, Bool, true, false, List, [], ◌∷◌, length, take}
use Rattle.std.specs.Prelude.{Option, Some, None, Result, Ok, Err, IfSome, OnOk}
use Rattle.std.specs.List.{find}
use Rattle.http_bodies.specs.declared.frame.Frame.{Frame}
use Rattle.http_bodies.specs.declared.frame.FrameError.{FrameError}
use Rattle.http_bodies.specs.declared.frame.FrameError.TheVariants as frame
use Rattle.http_bodies.specs.Dumping.{data_size}
use Rattle.http_bodies.specs.Frames.{all_data, data_of}
use Rattle.http_bodies.specs.Sources.{IsAtEnd, TakesFrames}
use Rattle.body_reading.specs.declared.whole.BodyError.{BodyError}
use Rattle.body_reading.specs.declared.whole.BodyError.TheVariants as body

-- how many bytes of content there are in the first frame, in the first two, and so on, behind so many before them
abbrev pub sums : ℕ → List Frame → List ℕ
sums before [] = []
sums before (frame ∷ frames) = let sum = before + length (data_of frame) in sum ∷ sums sum frames

-- the size tells first, then whether there are more frames than the budget
abbrev pub by_size : Option ℕ → Bool → ℕ → List ℕ → Result (List ℕ) BodyError
by_size (Some sum) over budget content = Err (body.BodyTooLarge (min sum (2 ^ 64 - 1)))
by_size None true budget content = Err (body.FrameBudget (budget + 1))
by_size None false budget content = Ok content

-- What a whole body gives: its content; unless that passes the limit within the frames of the budget and one more, or
-- there are more frames than the budget.
abbrev pub whole : (limit budget : ℕ) → List Frame → Result (List ℕ) BodyError
whole limit budget frames =
    let above = find (nat_lt limit) (sums 0 (take (budget + 1) frames)) in
    by_size above (nat_lt budget (length frames)) budget (all_data frames)

-- the content of the first frames passes the limit, and so many are the least that do
pub record IsFirstAbove (limit : ℕ) (frames : List Frame) (count : ℕ) : Type 0 where
  pub within : count ≤ length frames
  pub above : limit < length (all_data (take count frames))
  pub least : (fewer : ℕ) → fewer < count → length (all_data (take fewer frames)) ≤ limit

-- The cause of `Ok`: the content of all frames, which is within the limit, as they are within the budget.
pub record IsRead (limit budget : ℕ) (frames : List Frame) (content : List ℕ) : Type 0 where
  pub content_is : content ≡ all_data frames
  pub small : length content ≤ limit
  pub few : length frames ≤ budget

-- The cause of `BodyTooLarge`: the first frames pass the limit, at most one more than the budget; the size told is theirs.
pub record IsTooLarge (limit budget : ℕ) (frames : List Frame) (sum : ℕ) : Type 0 where
  pub count : ℕ
  pub within : count ≤ budget + 1
  pub first : IsFirstAbove limit frames count
  pub sum_is : sum ≡ data_size (take count frames)

-- The cause of `FrameBudget`: there are more frames than the budget, and the content so far is within the limit.
pub record IsOverBudget (limit budget : ℕ) (frames : List Frame) (count : ℕ) : Type 0 where
  pub count_is : count ≡ budget + 1
  pub many : budget < length frames
  pub small : length (all_data (take (budget + 1) frames)) ≤ limit

-- what frames have to be for an answer that is no fault, nor want of memory
abbrev pub HasCause : (limit budget : ℕ) → List Frame → Result (List ℕ) BodyError → Type 0
HasCause limit budget frames (Ok content) = IsRead limit budget frames content
HasCause limit budget frames (Err (body.BodyTooLarge sum)) = IsTooLarge limit budget frames sum
HasCause limit budget frames (Err (body.FrameBudget count)) = IsOverBudget limit budget frames count
HasCause limit budget frames (Err body.BodyFault) = ⊥
HasCause limit budget frames (Err body.OutOfMemory) = ⊥

-- a call failed, or memory ran out
abbrev pub IsCutShort : Result (List ℕ) BodyError → Type 0
IsCutShort (Ok content) = ⊥
IsCutShort (Err (body.BodyTooLarge sum)) = ⊥
IsCutShort (Err (body.FrameBudget count)) = ⊥
IsCutShort (Err body.BodyFault) = Unit {0}
IsCutShort (Err body.OutOfMemory) = Unit {0}

-- The frames that came in a call, and what its answer says of them. Where the source does not tell what is left, they
-- are any that fit the answer.
pub record Reads (limit budget : ℕ) (old new : Option (List Frame)) (result : Result (List ℕ) BodyError) : Type 0 where
  pub came : List Frame
  pub taken : TakesFrames old came new
  pub most : length came ≤ budget + 1
  pub cause : IsCutShort result ⊎ HasCause limit budget came result
  pub ended : OnOk result (IsAtEnd new)
  pub dumped : IsCutShort result ⊎ IsAtEnd new ⊎ (length came ≡ budget + 1)

-- at most so many frames were taken
pub record TakesAtMost (room : ℕ) (old new : Option (List Frame)) : Type 0 where
  pub came : List Frame
  pub taken : TakesFrames old came new
  pub most : length came ≤ room

-- so many frames were taken, or all that were left where these were fewer
pub record TakesRoom (room : ℕ) (old new : Option (List Frame)) : Type 0 where
  pub came : List Frame
  pub taken : TakesFrames old came new
  pub most : length came ≤ room
  pub all : (length came ≡ room) ⊎ IsAtEnd new

-- where the source tells its frames, some of them have content
abbrev pub HasContent : Option (List Frame) → Type 0
HasContent left = IfSome left (λ frames. ¬ (all_data frames ≡ []))

-- what is answered where a call gives no frame
abbrev pub body_error_of : FrameError → BodyError
body_error_of frame.Failed = body.BodyFault
body_error_of frame.OutOfMemory = body.OutOfMemory
