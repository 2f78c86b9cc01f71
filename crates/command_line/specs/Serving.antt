-- Lines that are served within the settings of a run: what each status says, and which one is called for.
use Rattle.std.specs.Prelude.{ℕ, ◌≡◌, ◌+◌, ◌⊎◌, List, Some, take}
use Rattle.schema_values.specs.Causes.{HasRisen}
use Rattle.line_session.specs.Calls.{IsServedBy}
use Rattle.line_session.specs.Lines.{HasLongLine, IsTooMuch, PassesNoLimit}
use Rattle.line_session.specs.Status.{IsServed, MeetsLimits}
use Rattle.line_session.specs.declared.ends.Sink.{Ghosts as SinkGhosts}
use Rattle.line_session.specs.declared.ends.Source.{Ghosts as SourceGhosts}
use Rattle.line_session.specs.declared.serving.SessionEnd.{SessionEnd}
use Rattle.line_session.specs.declared.serving.SessionEnd.TheVariants as end
use Rattle.command_line.specs.declared.config.ToolConfig.{ToolConfig}
use Rattle.command_line.specs.declared.config.ToolStatus.{ToolStatus}
use Rattle.command_line.specs.declared.config.ToolStatus.TheVariants as status

-- what a run reads, writes and changes, at a moment
pub record Outside (S K X : Type 0) : Type 0 where
  pub source : S
  pub sink : K
  pub state : X

-- a moment by its parts
abbrev pub outside : {S K X : Type 0} → S → K → X → Outside S K X
outside source sink state = record { source = source; sink = sink; state = state }

-- of lines that are answered so, or whose reply is lost so, behind a text in front
module _ {S K X : Type 0} (answers : X → List ℕ → List ℕ → X → Type 0) (lost : X → List ℕ → X → Type 0)
    (front : List ℕ) (config : ToolConfig) (source : SourceGhosts S) (sink : SinkGhosts K)
    (before after : Outside S K X) where
  -- The front and the replies to lines were written, and it ended so: by the bytes that source and sink tell, and by
  -- those that the calls of them gave and took. Where the source tells its bytes, they meet the limits as this end
  -- says.
  pub record IsServedSo (how : SessionEnd) : Type 0 where
    pub served : IsServed answers lost front config.most_input config.longest_line
        (source.left before.source) (source.left after.source)
        (sink.taken before.sink) (sink.taken after.sink) before.state after.state how
    pub calls : IsServedBy answers lost front config.most_input config.longest_line source sink
        before.source after.source before.sink after.sink before.state after.state how
    pub limits : (all : List ℕ) → source.left before.source ≡ Some all
        → MeetsLimits config.most_input config.longest_line all how

  -- what each status says of it; for want of memory it may not have begun
  abbrev pub ServingEnds : ToolStatus → Type 0
  ServingEnds status.Done = IsServedSo end.Done
  ServingEnds status.ReadFault =
      HasRisen (source.faults before.source) (source.faults after.source) × IsServedSo end.ReadFault
  ServingEnds status.WriteFault =
      HasRisen (sink.faults before.sink) (sink.faults after.sink) × IsServedSo end.WriteFault
  ServingEnds (status.LineTooLong bytes) = IsServedSo (end.LineTooLong bytes)
  ServingEnds (status.TooMuchInput bytes) = IsServedSo (end.TooMuchInput bytes)
  ServingEnds status.OutOfMemory = (after ≡ before) ⊎ IsServedSo end.OutOfMemory
  ServingEnds status.Usage = ⊥
  ServingEnds (status.Refused error) = ⊥

-- a run ends by a status, or for want of memory
abbrev pub EndsBy : ToolStatus → ToolStatus → Type 0
EndsBy called how = (how ≡ called) ⊎ (how ≡ status.OutOfMemory)

-- the status of a session that all the bytes call for, by the limits
abbrev pub CallsFor : ToolConfig → List ℕ → ToolStatus → Type 0
CallsFor config all status.Done = PassesNoLimit config.most_input config.longest_line all
CallsFor config all (status.LineTooLong bytes) =
    (bytes ≡ config.longest_line + 1) × HasLongLine config.longest_line (take config.most_input all)
CallsFor config all (status.TooMuchInput bytes) =
    (bytes ≡ config.most_input + 1) × IsTooMuch config.most_input config.longest_line all
CallsFor config all _ = ⊥
