-- Bodies of responses: which of the calls on a body fail, and what reading it under a budget of frames comes to.
use Rattle.std.specs.Prelude.{◌≡◌, ◌+◌, ◌<◌, ◌≤◌, ◌++◌, ℕ, List, Bool, false, IsTrue, IsFalse, length}
use Rattle.http_bodies.specs.Bodies.{BodyState, failing, frames_of, never_failing}
use Rattle.http_bodies.specs.Memory.{is_failing}
use Rattle.http_bodies.specs.declared.frame.Frame.{Frame}

-- Whether the call on a body fails that is made after so many earlier ones. A body that can fail was told the numbers
-- of the calls that do, and has counted the calls before these.
abbrev pub fails_after : BodyState → ℕ → Bool
fails_after (never_failing frames) earlier = false
fails_after (failing memory) earlier = is_failing memory.failing (memory.calls + earlier)

-- none of so many next calls on a body fails
abbrev pub NoneFails : BodyState → ℕ → Type 0
NoneFails body count = (earlier : ℕ) → earlier < count → IsFalse (fails_after body earlier)

-- Reading makes a call for each frame and one for the end, but none after a call that fails, or after a frame above the
-- budget. So it comes to one of these three, and no two are true of one body (`one_reading_alone`).

-- the body is read whole: it has no more frames than the budget, and no call fails that gives one of them, or the end
pub record IsReadWhole (budget : ℕ) (body : BodyState) : Type 0 where
  pub few : length (frames_of body) ≤ budget
  pub none_fails : NoneFails body (length (frames_of body) + 1)

-- a call fails, and none of those before it, which are at most as many as there are frames, and as the budget allows
pub record FailsWithin (budget : ℕ) (body : BodyState) : Type 0 where
  pub earlier : ℕ
  pub reached : earlier ≤ length (frames_of body)
  pub within : earlier ≤ budget
  pub fails : IsTrue (fails_after body earlier)
  pub first : NoneFails body earlier

-- the body has more frames than the budget, and no call fails up to the one that gives the first above it
pub record HasMoreFrames (budget : ℕ) (body : BodyState) : Type 0 where
  pub many : budget < length (frames_of body)
  pub none_fails : NoneFails body (budget + 1)

-- at most so many frames were taken of a body, which are its first ones
pub record TakesFirst (most : ℕ) (before after : BodyState) : Type 0 where
  pub came : List Frame
  pub taken : frames_of before ≡ came ++ frames_of after
  pub few : length came ≤ most
