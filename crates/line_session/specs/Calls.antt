-- Which calls were made of the ends of a session, and what they gave and took. The ends need not tell their bytes.
use Rattle.std.specs.Prelude.{ℕ, ◌≡◌, ◌<◌, ◌≤◌, ◌⊎◌, List, [], ◌++◌, length, take, IfOk, IsErrOf, OnOk, Ok, Err}
use Rattle.std.specs.Prelude.{Bool, None, Result, Some, false, true}
use Rattle.std.specs.List.{FoldsTo, concat}
use Rattle.std.specs.Io.{ReadsAtMost, WritesAtMost}
use Rattle.std.specs.Io.KnownBytes.{ReadConsumes, WriteAppends}
use Rattle.std.specs.declared.option.Option.{Option}
use Rattle.schema_values.specs.Causes.{HasRisen, HasCause}
use Rattle.line_session.specs.Reading.{Reading, Handles}
use Rattle.line_session.specs.NextLine.{IsNext}
use Rattle.line_session.specs.Lines.{end_line}
use Rattle.line_session.specs.Session.{PartReplied}
use Rattle.line_session.specs.Status.{IsServed, lost_at}
use Rattle.line_session.specs.declared.ends.Failed.{Failed}
use Rattle.line_session.specs.declared.ends.Sink.{Ghosts as SinkGhosts}
use Rattle.line_session.specs.declared.ends.SinkError.{SinkError}
use Rattle.line_session.specs.declared.ends.SinkError.TheVariants as sink_error
use Rattle.line_session.specs.declared.ends.Source.{Ghosts as SourceGhosts}
use Rattle.line_session.specs.declared.line_reader.NextLine.{NextLine}
use Rattle.line_session.specs.declared.line_reader.NextLine.TheVariants as nexts
use Rattle.line_session.specs.declared.serving.SessionEnd.{SessionEnd}
use Rattle.line_session.specs.declared.serving.SessionEnd.TheVariants as end

-- calls, one after another, gave or took pieces, which together are these bytes
pub record ByCalls {X : Type 0} (Call : X → List ℕ → X → Type 0) (old : X) (bytes : List ℕ) (new : X) : Type 0 where
  pub pieces : List (List ℕ)
  pub calls : FoldsTo Call old pieces new
  pub whole : concat pieces ≡ bytes

-- ---- a source

module _ {S : Type 0} (source : SourceGhosts S) where
  -- A call of `read` with room for 4,096 bytes: what stands in the room then, and the answer. Both are as the contract
  -- of `Source` says, and as the source itself says in `read_gives`.
  pub record ReadCall (before : S) (buf : List ℕ) (answer : Result ℕ Failed) (after : S) : Type 0 where
    pub room : length buf ≡ 4096
    pub bound : ReadsAtMost answer buf
    pub bytes : ReadConsumes (source.left before) (source.left after) answer buf
    pub cause : HasCause (source.faults before) (source.faults after) answer
    pub counts : OnOk answer (source.faults after ≡ source.faults before)
    pub gives : source.read_gives before buf answer after

  -- a call gave these bytes, one at least
  pub record GivesPiece (before : S) (bytes : List ℕ) (after : S) : Type 0 where
    pub buf : List ℕ
    pub count : ℕ
    pub call : ReadCall before buf (Ok count) after
    pub some : 0 < count
    pub given : bytes ≡ take count buf

  -- calls gave these bytes
  abbrev pub Gave : S → List ℕ → S → Type 0
  Gave old bytes new = ByCalls GivesPiece old bytes new

  -- the same, and a call behind them, the last, told of the end
  abbrev pub GaveAll : S → List ℕ → S → Type 0
  GaveAll old bytes new = (mid : S) × (buf : List ℕ) × Gave old bytes mid × ReadCall mid buf (Ok 0) new

  -- the same, and the last failed
  abbrev pub GaveAndFailed : S → List ℕ → S → Type 0
  GaveAndFailed old bytes new =
      (mid : S) × (buf : List ℕ) × (failed : Failed) × Gave old bytes mid × ReadCall mid buf (Err failed) new

  -- how the calls for the next byte ended
  abbrev pub EndsPeek : S → List ℕ → S → Result (Option ℕ) Failed → Type 0
  EndsPeek old bytes new (Ok None) = GaveAll old bytes new
  EndsPeek old bytes new (Ok (Some b)) = Gave old bytes new
  EndsPeek old bytes new (Err failed) = GaveAndFailed old bytes new

  -- calls gave these bytes, of which none was handled yet
  pub record PeeksBy (a b : Reading) (old new : S) (result : Result (Option ℕ) Failed) : Type 0 where
    pub input : List ℕ
    pub calls : EndsPeek old input new result
    pub handles : Handles a b (Some input) (Some []) []

  -- how the calls for the next line ended
  abbrev pub EndsLine : S → List ℕ → S → NextLine → Type 0
  EndsLine old bytes new (nexts.Ended line) = Gave old bytes new
  EndsLine old bytes new (nexts.End line) = GaveAll old bytes new
  EndsLine old bytes new nexts.ReadFault = GaveAndFailed old bytes new
  EndsLine old bytes new nexts.TooLong = Gave old bytes new
  EndsLine old bytes new nexts.TooMuchInput = Gave old bytes new
  EndsLine old bytes new nexts.OutOfMemory = Gave old bytes new

  -- calls gave some bytes, and of these what comes next is told
  pub record IsNextBy (longest : ℕ) (a b : Reading) (old new : S) (result : NextLine) : Type 0 where
    pub input : List ℕ
    pub calls : EndsLine old input new result
    pub next : IsNext longest a b (Some input) (Some []) result

  -- calls gave these bytes; and where the end was told, the last told of it
  abbrev pub GaveUpTo : Bool → S → List ℕ → S → Type 0
  GaveUpTo true old bytes new = GaveAll old bytes new
  GaveUpTo false old bytes new = Gave old bytes new

  -- How the calls of a session ended, and whether the end was told: where all was answered, it was; at a fault the last
  -- call failed; at a limit each gave some bytes. Where the writing or memory ended the session, it may have been told.
  abbrev pub EndsReading : Bool → S → List ℕ → S → SessionEnd → Type 0
  EndsReading told old bytes new end.Done = (told ≡ true) × GaveAll old bytes new
  EndsReading told old bytes new end.ReadFault = (told ≡ false) × GaveAndFailed old bytes new
  EndsReading told old bytes new (end.LineTooLong k) = (told ≡ false) × Gave old bytes new
  EndsReading told old bytes new (end.TooMuchInput k) = (told ≡ false) × Gave old bytes new
  EndsReading told old bytes new end.WriteFault = GaveUpTo told old bytes new
  EndsReading told old bytes new end.OutOfMemory = GaveUpTo told old bytes new

-- ---- a sink

module _ {K : Type 0} (sink : SinkGhosts K) where
  -- A call of `write` with a piece that is not empty, and the answer. It is as the contract of `Sink` says, and as the
  -- sink itself says in `write_gives`.
  pub record WriteCall (before : K) (piece : List ℕ) (answer : Result ℕ SinkError) (after : K) : Type 0 where
    pub some : 0 < length piece
    pub bound : WritesAtMost answer piece
    pub progress : IfOk answer (λ n. 0 < n)
    pub bytes : WriteAppends (sink.taken before) (sink.taken after) answer piece
    pub later : sink.faults before ≤ sink.faults after
    pub failed : IsErrOf answer sink_error.Failed → HasRisen (sink.faults before) (sink.faults after)
    pub counts : ¬ IsErrOf answer sink_error.Failed → sink.faults after ≡ sink.faults before
    pub gives : sink.write_gives before piece answer after

  -- a call took these bytes from the front of its piece
  pub record TakesPiece (before : K) (bytes : List ℕ) (after : K) : Type 0 where
    pub piece : List ℕ
    pub count : ℕ
    pub call : WriteCall before piece (Ok count) after
    pub taken : bytes ≡ take count piece

  -- calls took these bytes
  abbrev pub Took : K → List ℕ → K → Type 0
  Took old bytes new = ByCalls TakesPiece old bytes new

  -- the same, and a call behind them, the last, answered this error
  abbrev pub TookAndFailed : K → List ℕ → SinkError → K → Type 0
  TookAndFailed old bytes error new =
      (mid : K) × (piece : List ℕ) × Took old bytes mid × WriteCall mid piece (Err error) new

  -- the same; or none failed, and there was no memory for what was to be written next
  abbrev pub TookUpTo : K → List ℕ → SinkError → K → Type 0
  TookUpTo old bytes error new =
      TookAndFailed old bytes error new ⊎ ((error ≡ sink_error.OutOfMemory) × Took old bytes new)

  -- calls took a part of these bytes from the front, up to this error
  abbrev pub TookPart : K → List ℕ → SinkError → K → Type 0
  TookPart old bytes error new =
      (part : List ℕ) × (more : List ℕ) × (part ++ more ≡ bytes) × TookUpTo old part error new

  -- calls took a part of these bytes from the front, and a call behind them, the last, answered this error
  abbrev pub TookPartAndFailed : K → List ℕ → SinkError → K → Type 0
  TookPartAndFailed old bytes error new =
      (part : List ℕ) × (more : List ℕ) × (part ++ more ≡ bytes) × TookAndFailed old part error new

  -- calls took all of these bytes, or up to an error a part of them
  abbrev pub IsWrittenBy : {T : Type 0} → List ℕ → K → K → Result T SinkError → Type 0
  IsWrittenBy bytes old new (Ok done) = Took old bytes new
  IsWrittenBy bytes old new (Err error) = TookPart old bytes error new

  -- how the calls of a session ended: none failed, but the last where the sink or memory ended the session
  abbrev pub EndsWriting : K → List ℕ → K → SessionEnd → Type 0
  EndsWriting old bytes new end.WriteFault = TookAndFailed old bytes sink_error.Failed new
  EndsWriting old bytes new end.OutOfMemory = TookUpTo old bytes sink_error.OutOfMemory new
  EndsWriting old bytes new end.Done = Took old bytes new
  EndsWriting old bytes new end.ReadFault = Took old bytes new
  EndsWriting old bytes new (end.LineTooLong k) = Took old bytes new
  EndsWriting old bytes new (end.TooMuchInput k) = Took old bytes new

-- ---- a session

module _ {X : Type 0} (Answers : X → List ℕ → List ℕ → X → Type 0) (Lost : X → List ℕ → X → Type 0) where
  -- a line was answered, and calls took the reply; or up to an error a part of it
  abbrev pub IsRepliedBy : {K T : Type 0} → SinkGhosts K → K → K → X → List ℕ → X → Result T SinkError → Type 0
  IsRepliedBy sink before after old line new (Ok done) =
      (reply : List ℕ) × Answers old line reply new × Took sink before (end_line reply) after
  IsRepliedBy sink before after old line new (Err error) =
      (part : List ℕ) × TookUpTo sink before part error after
      × PartReplied Answers (lost_at Lost error) (Some []) (Some part) old line new

  -- Calls of `read` gave the input, and calls of `write` took the output. The session is that of these bytes, whatever
  -- may come behind the input; that is nothing, where the end was told.
  pub record IsServedBy {S K : Type 0} (front : List ℕ) (most longest : ℕ) (source : SourceGhosts S)
      (sink : SinkGhosts K) (read read_now : S) (wrote wrote_now : K) (old new : X) (how : SessionEnd) : Type 0 where
    pub input : List ℕ
    pub output : List ℕ
    pub told : Bool
    pub reads : EndsReading source told read input read_now how
    pub writes : EndsWriting sink wrote output wrote_now how
    pub served : (more : List ℕ) → (told ≡ true → more ≡ [])
        → IsServed Answers Lost front most longest (Some (input ++ more)) (Some more) (Some []) (Some output)
        old new how
