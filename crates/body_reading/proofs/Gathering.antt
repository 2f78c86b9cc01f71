-- The loop that gathers frames.
use Rattle.std.specs.Prelude.{◌≡◌, ℕ, List, length}
use Rattle.http_bodies.specs.declared.frame.Frame.{Frame}
use Rattle.http_bodies.specs.Frames.{SourceState}
use Rattle.http_bodies.specs.Sources.{TakesFrames}

-- these frames came, and no call failed
pub record IsGathering (start now : SourceState) (came : List Frame) (count : ℕ) : Type 0 where
  pub taken : TakesFrames start.left came now.left
  pub counted : length came ≡ count
  pub faults : now.faults ≡ start.faults
  pub same : now.can_fail ≡ start.can_fail
