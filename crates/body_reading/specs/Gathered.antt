-- Frames of a source, gathered in memory (of this library).
use Rattle.std.specs.Prelude.{ℕ, ◌≡◌, ◌⊎◌, ◌+◌, ◌≤◌, List, [], ◌∷◌, length}
use Rattle.http_bodies.specs.declared.frame.Frame.{Frame}
use Rattle.http_bodies.specs.Bodies.{BodyState, never_failing, failing}
use Rattle.http_bodies.specs.Frames.{SourceState}
use Rattle.http_bodies.specs.Memory.{fresh_frames}
use Rattle.http_bodies.specs.Sources.{HasFailed, IsAtEnd, TakesFrames}

-- no call failed, and the frames that came are all, or one more than the budget
pub record IsGatheredWhole (budget : ℕ) (old new : SourceState) (came : List Frame) : Type 0 where
  pub faults : new.faults ≡ old.faults
  pub all : IsAtEnd new.left ⊎ (length came ≡ budget + 1)

-- a call failed behind these frames
pub record IsGatheredToFault (budget : ℕ) (old new : SourceState) (came : List Frame) : Type 0 where
  pub failed : HasFailed old new
  pub few : length came ≤ budget

-- a body of these frames: it never fails where no call failed, and else fails at the call behind them
abbrev pub HoldsGathered : (budget : ℕ) (old new : SourceState) → List Frame → BodyState → Type 0
HoldsGathered budget old new came (never_failing frames) = (frames ≡ came) × IsGatheredWhole budget old new came
HoldsGathered budget old new came (failing memory) =
    (memory ≡ fresh_frames came (length came ∷ [])) × IsGatheredToFault budget old new came

-- the frames that came of a source, at most one more than the budget, are those of a body
pub record GathersInto (budget : ℕ) (old new : SourceState) (gathered : BodyState) : Type 0 where
  pub came : List Frame
  pub taken : TakesFrames old.left came new.left
  pub most : length came ≤ budget + 1
  pub holds : HoldsGathered budget old new came gathered
