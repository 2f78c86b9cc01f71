-- What each end of a session says.
use Rattle.std.specs.Prelude.{ℕ, ◌≡◌, ◌+◌, ◌<◌, ◌≤◌, List, take, ⊤}
use Rattle.std.specs.declared.option.Option.{Option}
use Rattle.schema_values.specs.Causes.{HasRisen}
use Rattle.line_session.specs.Lines.{HasLongLine, IsTooMuch, PassesNoLimit}
use Rattle.line_session.specs.Session.{IsDone, IsStopped, IsCut, NeverLost, NoRest, MakesTooLong, MakesTooMuch}
use Rattle.line_session.specs.declared.ends.SinkError.{SinkError}
use Rattle.line_session.specs.declared.ends.SinkError.TheVariants.{Failed, OutOfMemory as NoMemory}
use Rattle.line_session.specs.declared.serving.SessionEnd.{SessionEnd}
use Rattle.line_session.specs.declared.serving.SessionEnd.TheVariants.{Done, ReadFault, WriteFault, LineTooLong, TooMuchInput, OutOfMemory}

-- the status of a write that failed
abbrev pub status_of : SinkError → SessionEnd
status_of Failed = WriteFault
status_of NoMemory = OutOfMemory

-- what may be lost at such an error: nothing where a write failed, for then a reply stands
abbrev pub lost_at : {X : Type 0} → (X → List ℕ → X → Type 0) → SinkError → X → List ℕ → X → Type 0
lost_at Lost Failed = NeverLost
lost_at Lost NoMemory = Lost

-- a session was served, and ended with this status
abbrev pub IsServed : {X : Type 0} → (X → List ℕ → List ℕ → X → Type 0) → (X → List ℕ → X → Type 0) → List ℕ → ℕ → ℕ
    → Option (List ℕ) → Option (List ℕ) → Option (List ℕ) → Option (List ℕ) → X → X → SessionEnd → Type 0
IsServed Answers Lost front most longest left_old left_new taken_old taken_new old new Done =
    IsDone Answers front most longest left_old left_new taken_old taken_new old new
IsServed Answers Lost front most longest left_old left_new taken_old taken_new old new ReadFault =
    IsStopped Answers front most longest left_old left_new taken_old taken_new old new NoRest
IsServed Answers Lost front most longest left_old left_new taken_old taken_new old new WriteFault =
    IsCut Answers NeverLost front most longest left_old left_new taken_old taken_new old new
IsServed Answers Lost front most longest left_old left_new taken_old taken_new old new (LineTooLong k) =
    (k ≡ longest + 1) × IsStopped Answers front most longest left_old left_new taken_old taken_new old new (MakesTooLong most longest)
IsServed Answers Lost front most longest left_old left_new taken_old taken_new old new (TooMuchInput k) =
    (k ≡ most + 1) × IsStopped Answers front most longest left_old left_new taken_old taken_new old new (MakesTooMuch most)
IsServed Answers Lost front most longest left_old left_new taken_old taken_new old new OutOfMemory =
    IsCut Answers Lost front most longest left_old left_new taken_old taken_new old new

-- what an end says of the limits and of all the bytes that the source had
abbrev pub MeetsLimits : ℕ → ℕ → List ℕ → SessionEnd → Type 0
MeetsLimits most longest all Done = PassesNoLimit most longest all
MeetsLimits most longest all (LineTooLong k) = (k ≡ longest + 1) × HasLongLine longest (take most all)
MeetsLimits most longest all (TooMuchInput k) = (k ≡ most + 1) × IsTooMuch most longest all
MeetsLimits most longest all ReadFault = ⊤
MeetsLimits most longest all WriteFault = ⊤
MeetsLimits most longest all OutOfMemory = ⊤

-- What an end says of how often the source failed and how often the sink: a count that rose in the session ended it, by
-- whose it is.
pub record CountsFaults (read read_now wrote wrote_now : ℕ) (end : SessionEnd) : Type 0 where
  pub source_later : read ≤ read_now
  pub sink_later : wrote ≤ wrote_now
  pub read_fault : end ≡ ReadFault → HasRisen read read_now
  pub write_fault : end ≡ WriteFault → HasRisen wrote wrote_now
  pub read_risen : read < read_now → end ≡ ReadFault
  pub write_risen : wrote < wrote_now → end ≡ WriteFault
