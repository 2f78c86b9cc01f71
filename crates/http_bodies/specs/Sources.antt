-- What a call on a source of frames changes (of this library).
use Rattle.std.specs.Prelude.{◌≡◌, ℕ, ◌+◌, ◌≤◌, true, List, [], ◌∷◌, ◌++◌, length, Option, Some, None}
use Rattle.std.specs.Option.{IfSome}
use Rattle.schema_values.specs.Causes.{HasRisen}
use Rattle.http_bodies.specs.declared.frame.Frame.{Frame}
use Rattle.http_bodies.specs.Frames.{SourceState}

-- these frames stood first of those that were left, and are left no more, where that is told
abbrev pub TakesFrames : Option (List Frame) → List Frame → Option (List Frame) → Type 0
TakesFrames None taken after = after ≡ None
TakesFrames (Some before) taken None = ⊥
TakesFrames (Some before) taken (Some after) = before ≡ taken ++ after

-- no frame is left, where that is told
abbrev pub IsAtEnd : Option (List Frame) → Type 0
IsAtEnd left = IfSome left (λ frames. frames ≡ [])

-- Where the frames that are left are told, these calls were at most one for each frame that came, and one more: none
-- was made behind the end or an error.
abbrev pub CalledFor : (before after : Option (List Frame)) → (old new : ℕ) → Type 0
CalledFor before after old new =
    IfSome before (λ frames. IfSome after (λ rest. new + length rest ≤ old + length frames + 1))

-- what a call gives: the first frame that is left, which is taken; or none, where none is left
abbrev pub GivesFrame : Option (List Frame) → Option Frame → Option (List Frame) → Type 0
GivesFrame before (Some frame) after = TakesFrames before (frame ∷ []) after
GivesFrame before None after = IsAtEnd before × (after ≡ before)

-- a call failed: the source can fail, and its count of faults rose, or stands at the last value of a counter
pub record HasFailed (old new : SourceState) : Type 0 where
  pub able : old.can_fail ≡ true
  pub risen : HasRisen old.faults new.faults

-- the count of faults has not fallen, and whether a call can fail stays
pub record GoesOn (old new : SourceState) : Type 0 where
  pub later : old.faults ≤ new.faults
  pub same : new.can_fail ≡ old.can_fail
