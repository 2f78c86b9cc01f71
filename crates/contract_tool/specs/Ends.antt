-- How a run ends: what each status says.
use Rattle.std.specs.Prelude.{ℕ, ◌≡◌, ◌⊎◌, List, Ok, Err}
use Rattle.std.specs.Io.KnownBytes.{Appends}
use Rattle.std.specs.declared.alloc.Global.{Global}
use Rattle.std.specs.declared.string.String.{String}
use Rattle.schema_values.specs.Causes.{HasRisen}
use Rattle.line_session.specs.Parts.{AppendsPart}
use Rattle.line_session.specs.declared.ends.Sink.{Ghosts as SinkGhosts}
use Rattle.line_session.specs.declared.ends.Source.{Ghosts as SourceGhosts}
use Rattle.semver.specs.Parse.{Parts}
use Rattle.tag_config.specs.Configurations.{Configuration}
use Rattle.tree_store.specs.Tables.{Tables}
use Rattle.api_registration.specs.declared.error.ApiDescriptionRegisterError.{ApiDescriptionRegisterError}
use Rattle.api_endpoints.specs.declared.endpoint.ApiEndpoint.{ApiEndpoint}
use Rattle.api_endpoints.specs.Endpoints.{Meanings, declarations_of}
use Rattle.api_descriptions.specs.Refusals.{IsFirstRefused}
use Rattle.api_descriptions.specs.Written.{WritesBy}
use Rattle.api_descriptions.specs.declared.definition.WriteError.TheVariants.{WriteFault, OutOfMemory}
use Rattle.command_line.specs.declared.config.ToolConfig.{ToolConfig}
use Rattle.command_line.specs.declared.config.ToolStatus.{ToolStatus}
use Rattle.command_line.specs.declared.config.ToolStatus.TheVariants as status
use Rattle.command_line.specs.Serving.{Outside, ServingEnds}
use Rattle.command_line.specs.Words.{AskForDocument, AskForSession, IsCommand}
use Rattle.contract_tool.specs.LineAnswers.{LineAnswers, LineIsLost, Service, service}
use Rattle.contract_tool.specs.Sessions.{IsDocumented, IsOpened, preamble_of}

-- nothing was read, and the state stays; the sink may have taken bytes
abbrev pub OnlyWrites : {S K X : Type 0} → Outside S K X → Outside S K X → Type 0
OnlyWrites before after = (after.source ≡ before.source) × (after.state ≡ before.state)

-- ---- a session

-- what each status says of a session: lines are answered by a service, behind its document
abbrev pub SessionEnds : {X : Type 0} {F : X → Type 0} {S K : Type 0} → Meanings X F → Service X F → SourceGhosts S
    → SinkGhosts K → Outside S K Tables → Outside S K Tables → ToolStatus → Type 0
SessionEnds m s = ServingEnds (LineAnswers m s) (LineIsLost m s) (preamble_of m s) s.config

-- ---- a document alone

-- What each status says of a document of these bytes: it was written whole, or a part of it from the front, by the
-- bytes that the sink tells, and by those that the calls of it took, as `write` says it.
abbrev pub DocumentEnds : {K : Type 0} → SinkGhosts K → K → K → List ℕ → ToolStatus → Type 0
DocumentEnds sink before after bytes status.Done =
    Appends (sink.taken before) (sink.taken after) bytes × WritesBy sink bytes before after (Ok tt)
DocumentEnds sink before after bytes status.WriteFault =
    HasRisen (sink.faults before) (sink.faults after) × AppendsPart (sink.taken before) (sink.taken after) bytes
    × WritesBy sink bytes before after (Err WriteFault)
DocumentEnds sink before after bytes status.OutOfMemory =
    AppendsPart (sink.taken before) (sink.taken after) bytes × WritesBy sink bytes before after (Err OutOfMemory)
DocumentEnds sink before after bytes _ = ⊥

-- ---- a run

-- what a run is given: the words, the settings, the configuration of tags, and the endpoints
pub record Given (X : Type 0) (F : X → Type 0) : Type 0 where
  pub words : List (String Global)
  pub config : ToolConfig
  pub tags : Configuration
  pub endpoints : List (ApiEndpoint X F)

-- what is given, by its parts
abbrev pub given : {X : Type 0} {F : X → Type 0} → List (String Global) → ToolConfig → Configuration
    → List (ApiEndpoint X F) → Given X F
given words config tags endpoints = record { words = words; config = config; tags = tags; endpoints = endpoints }

-- what lines are answered by at a version
abbrev pub service_at : {X : Type 0} {F : X → Type 0} → Given X F → Parts → Service X F
service_at g version = service g.config g.tags g.endpoints version

module _ {X : Type 0} {F : X → Type 0} {S K : Type 0} (m : Meanings X F) (g : Given X F)
    (source : SourceGhosts S) (sink : SinkGhosts K) (before after : Outside S K Tables) where
  -- what each status says of a run that did not begin: nothing was read, written or stored
  abbrev pub EndsBefore : ToolStatus → Type 0
  EndsBefore status.Usage = ¬ IsCommand g.words × (after ≡ before)
  EndsBefore (status.Refused error) =
      IsCommand g.words × IsFirstRefused g.tags (declarations_of m g.endpoints) error × (after ≡ before)
  EndsBefore status.OutOfMemory = after ≡ before
  EndsBefore _ = ⊥

  -- a session was asked for and opened, and ended so
  pub record EndsInSession (how : ToolStatus) : Type 0 where
    pub version : Parts
    pub asked : AskForSession g.words version
    pub opened : IsOpened m (service_at g version)
    pub ends : SessionEnds m (service_at g version) source sink before after how

  -- a document was asked for, and its writing ended so
  pub record EndsInDocument (how : ToolStatus) : Type 0 where
    pub version : Parts
    pub asked : AskForDocument g.words version
    pub documented : IsDocumented m (service_at g version)
    pub ends : DocumentEnds sink before.sink after.sink (preamble_of m (service_at g version)) how
    pub unread : OnlyWrites before after

  -- how a run ends
  abbrev pub IsEnded : ToolStatus → Type 0
  IsEnded how = EndsBefore how ⊎ (EndsInSession how ⊎ EndsInDocument how)

-- a run refuses an endpoint, or ends for want of memory
abbrev pub EndsByRefusal : ToolStatus → Type 0
EndsByRefusal how =
    ((error : ApiDescriptionRegisterError) × (how ≡ status.Refused error)) ⊎ (how ≡ status.OutOfMemory)
