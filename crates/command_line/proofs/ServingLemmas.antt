-- How lines are served, by how their session ends.
use Rattle.std.proofs.Common.{◌≡◌, ◌+◌, ℕ, List, take, ◌⊎◌, inl, inr, refl, sym, ap, subst, ◌∙◌}
use Rattle.schema_values.specs.Causes.{HasRisen}
use Rattle.line_session.specs.Lines.{HasLongLine, IsTooMuch, PassesNoLimit}
use Rattle.line_session.specs.declared.ends.Sink.{Ghosts as SinkGhosts}
use Rattle.line_session.specs.declared.ends.Source.{Ghosts as SourceGhosts}
use Rattle.line_session.specs.declared.serving.SessionEnd.{SessionEnd}
use Rattle.line_session.specs.declared.serving.SessionEnd.TheVariants as ended
use Rattle.command_line.specs.declared.config.ToolConfig.{ToolConfig}
use Rattle.command_line.specs.declared.config.ToolStatus.{ToolStatus}
use Rattle.command_line.specs.declared.config.ToolStatus.TheVariants.{Done, Usage, Refused, ReadFault, WriteFault}
use Rattle.command_line.specs.declared.config.ToolStatus.TheVariants.{LineTooLong, TooMuchInput, OutOfMemory}
use Rattle.command_line.specs.Statuses.{status_of}
use Rattle.command_line.specs.Serving.{CallsFor, IsServedSo, Outside, ServingEnds}

-- the end of a session that ends a run so
abbrev pub end_of : ToolStatus → SessionEnd
end_of Done = ended.Done
end_of Usage = ended.OutOfMemory
end_of (Refused error) = ended.OutOfMemory
end_of ReadFault = ended.ReadFault
end_of WriteFault = ended.WriteFault
end_of (LineTooLong bytes) = ended.LineTooLong bytes
end_of OutOfMemory = ended.OutOfMemory
end_of (TooMuchInput bytes) = ended.TooMuchInput bytes

end_of-status_of : (end : SessionEnd) → end_of (status_of end) ≡ end
end_of-status_of ended.Done = refl
end_of-status_of ended.ReadFault = refl
end_of-status_of ended.WriteFault = refl
end_of-status_of (ended.LineTooLong bytes) = refl
end_of-status_of (ended.TooMuchInput bytes) = refl
end_of-status_of ended.OutOfMemory = refl

-- the session's end, by the run's
pub ended_so : (end : SessionEnd) (result status : ToolStatus) → result ≡ status_of end → result ≡ status
    → end ≡ end_of status
ended_so end result status is same = sym (end_of-status_of end) ∙ ap end_of (sym is ∙ same)

-- a session that ends by the status that is called for, or for want of memory, ends the run so
pub called_for : (config : ToolConfig) (all : List ℕ) (end : SessionEnd) (result status : ToolStatus)
    → result ≡ status_of end → CallsFor config all status
    → (PassesNoLimit config.most_input config.longest_line all → (end ≡ ended.Done) ⊎ (end ≡ ended.OutOfMemory))
    → (HasLongLine config.longest_line (take config.most_input all)
    → (end ≡ ended.LineTooLong (config.longest_line + 1)) ⊎ (end ≡ ended.OutOfMemory))
    → (IsTooMuch config.most_input config.longest_line all
    → (end ≡ ended.TooMuchInput (config.most_input + 1)) ⊎ (end ≡ ended.OutOfMemory))
    → (result ≡ status) ⊎ (result ≡ OutOfMemory)
called_for config all end result status is calls none long much = by_status status calls
  where
    by_end : (to : SessionEnd) → (end ≡ to) ⊎ (end ≡ ended.OutOfMemory)
        → (result ≡ status_of to) ⊎ (result ≡ OutOfMemory)
    by_end to (inl same) = inl (is ∙ ap status_of same)
    by_end to (inr same) = inr (is ∙ ap status_of same)

    by_status : (status : ToolStatus) → CallsFor config all status → (result ≡ status) ⊎ (result ≡ OutOfMemory)
    by_status Done calls = by_end ended.Done (none calls)
    by_status (LineTooLong bytes) calls =
        rw calls.0 (by_end (ended.LineTooLong (config.longest_line + 1)) (long calls.1))
    by_status (TooMuchInput bytes) calls =
        rw calls.0 (by_end (ended.TooMuchInput (config.most_input + 1)) (much calls.1))
    by_status Usage calls = absurd calls
    by_status (Refused error) calls = absurd calls
    by_status ReadFault calls = absurd calls
    by_status WriteFault calls = absurd calls
    by_status OutOfMemory calls = absurd calls

module _ {S K X : Type 0} (answers : X → List ℕ → List ℕ → X → Type 0) (lost : X → List ℕ → X → Type 0)
    (front : List ℕ) (config : ToolConfig) (source : SourceGhosts S) (sink : SinkGhosts K)
    (before after : Outside S K X) where
  by_how : (how : SessionEnd) → IsServedSo answers lost front config source sink before after how
      → (how ≡ ended.ReadFault → HasRisen (source.faults before.source) (source.faults after.source))
      → (how ≡ ended.WriteFault → HasRisen (sink.faults before.sink) (sink.faults after.sink))
      → ServingEnds answers lost front config source sink before after (status_of how)
  by_how ended.Done served read write = served
  by_how ended.ReadFault served read write = (read refl, served)
  by_how ended.WriteFault served read write = (write refl, served)
  by_how (ended.LineTooLong bytes) served read write = served
  by_how (ended.TooMuchInput bytes) served read write = served
  by_how ended.OutOfMemory served read write = inr served

  -- what is said of lines whose serving ended so
  pub serving_ends : (how : SessionEnd) (result : ToolStatus) → result ≡ status_of how
      → IsServedSo answers lost front config source sink before after how
      → (how ≡ ended.ReadFault → HasRisen (source.faults before.source) (source.faults after.source))
      → (how ≡ ended.WriteFault → HasRisen (sink.faults before.sink) (sink.faults after.sink))
      → ServingEnds answers lost front config source sink before after result
  serving_ends how result is served read write =
      subst (ServingEnds answers lost front config source sink before after) (sym is) (by_how how served read write)

  -- lines that are served are no usage, and refuse nothing
  pub no_usage : (result : ToolStatus) → ServingEnds answers lost front config source sink before after result
      → result ≡ Usage → ⊥
  no_usage result ends is = subst (ServingEnds answers lost front config source sink before after) is ends
