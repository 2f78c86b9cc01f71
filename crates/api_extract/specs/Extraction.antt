-- What comes of a request whose body comes in frames: the first slot of path, query or headers that denotes nothing is
-- told before the body is touched; then what reading the body tells, and then what the body denotes.
use Rattle.std.specs.Prelude.{◌≡◌, ◌⊎◌, ◌+◌, ◌≤◌, length, IfOk, IsOk, IsTrue, OnOk, ℕ, ⊤, Bool, true, false, not}
use Rattle.std.specs.Prelude.{List, [], ◌∷◌, ◌++◌, filter, if◌then◌else◌, Option, Result}
use Rattle.std.specs.List.{list_any}
use Rattle.std.specs.declared.result.Result.TheVariants.{Ok, Err}
use Rattle.http_bodies.specs.Bodies.{BodyState, never_failing, frames_of}
use Rattle.http_bodies.specs.Frames.{SourceState, all_data}
use Rattle.http_bodies.specs.Sources.{TakesFrames}
use Rattle.http_bodies.specs.declared.frame.Frame.{Frame}
use Rattle.body_reading.specs.declared.whole.BodyError.{BodyError}
use Rattle.body_reading.specs.declared.whole.BodyError.TheVariants as reading
use Rattle.body_reading.specs.Gathered.{GathersInto}
use Rattle.body_reading.specs.Whole.{IsOverBudget, IsTooLarge, Reads, whole}
use Rattle.request_parts.specs.declared.content_type.ApiEndpointBodyContentType.TheVariants.{Bytes}
use Rattle.request_parts.specs.Requests.{Request}
use Rattle.request_parts.specs.Wire.{wire_of}
use Rattle.handler_shapes.specs.declared.slot.Slot.{Slot}
use Rattle.handler_shapes.specs.declared.slot.Slot.TheVariants.{TypedBody, RawBody, StreamBody}
use Rattle.handler_shapes.specs.declared.arguments.Arg.{Arg}
use Rattle.descriptors.specs.declared.table.Definition.{Definition}
use Rattle.typed_values.specs.Checks.{TablePasses}
use Rattle.typed_values.specs.declared.fault.Fault.{Fault}
use Rattle.handler_shapes.specs.BodySlots.{BodyComesLast, takes_body}
use Rattle.handler_shapes.specs.ShapeChecks.{SlotsPass}
use Rattle.api_extract.specs.declared.extract_error.ExtractError.{ExtractError}
use Rattle.api_extract.specs.declared.extract_error.ExtractError.TheVariants as errors
use Rattle.api_extract.specs.Denotes.{Denotes, GivenArgs, Terms, args_by, args_told, slot_told, terms}
use Rattle.api_extract.specs.ReadingErrors.{reading_error}
use Rattle.api_extract.specs.Refusals.{GivenArg}

-- whether the argument of a slot is made of the whole body
abbrev pub reads_body : Slot → Bool
reads_body (TypedBody desc name) = true
reads_body RawBody = true
reads_body _ = false

-- whether a slot takes the body as a stream
abbrev pub takes_stream : Slot → Bool
takes_stream StreamBody = true
takes_stream _ = false

-- what a slot is given of a body that was read
abbrev pub of_read : Result (List ℕ) BodyError → (List ℕ → GivenArg) → GivenArg
of_read (Ok bytes) given = given bytes
of_read (Err error) given = Err (reading_error error)

-- what a slot is given of a request, of the outcome of reading its body, and of the body as it stands
abbrev pub slot_given : Terms → Request → Result (List ℕ) BodyError → BodyState → Slot → GivenArg
slot_given terms request read body slot =
    if reads_body slot then of_read read (λ bytes. slot_told terms (wire_of request bytes) body slot) else
    slot_told terms (wire_of request []) body slot

-- the same of the frames of the body, where no call on it fails
abbrev pub slot_extracted : Terms → Request → BodyState → Slot → GivenArg
slot_extracted terms request body = slot_given terms request (whole terms.limit terms.budget (frames_of body)) body

-- what comes of a request and the frames of its body, where no call on the body fails
abbrev pub extracted : Terms → List Slot → Request → BodyState → GivenArgs
extracted terms slots request body = args_by (slot_extracted terms request body) slots

-- a body has no more frames than the budget, and no more content than the limit
pub record IsWithin (terms : Terms) (body : BodyState) : Type 0 where
  pub frames : length (frames_of body) ≤ terms.budget
  pub content : length (all_data (frames_of body)) ≤ terms.limit

-- what a slot of path, query or headers is given, whatever the body is
abbrev pub plainly_told : List Definition → Request → Slot → GivenArg
plainly_told table request = slot_told (terms table Bytes 0 0) (wire_of request []) (never_failing [])

-- what the slots of path, query and headers are given; it is asked before the body is touched
abbrev pub shared_told : List Definition → List Slot → Request → GivenArgs
shared_told table slots request = args_by (plainly_told table request) (filter (λ slot. not (takes_body slot)) slots)

-- a slot reads the body, and those of path, query and headers are given their arguments
pub record AsksForBody (table : List Definition) (slots : List Slot) (request : Request) : Type 0 where
  pub reads : IsTrue (list_any reads_body slots)
  pub shared : IsOk (shared_told table slots request)

-- the definitions and the slots pass their checks, and the body comes last
pub record AreServed (table : List Definition) (slots : List Slot) : Type 0 where
  pub definitions : TablePasses table
  pub each : SlotsPass table slots
  pub last : BodyComesLast slots

-- a call on the body failed, or memory ran out
abbrev pub IsCutShort : {T : Type 0} → Result T ExtractError → Type 0
IsCutShort (Ok given) = ⊥
IsCutShort (Err (errors.Refused fault message)) = ⊥
IsCutShort (Err errors.BodyFault) = ⊤
IsCutShort (Err (errors.BodyTooLarge sum)) = ⊥
IsCutShort (Err (errors.FrameBudget count)) = ⊥
IsCutShort (Err errors.OutOfMemory) = ⊤

-- an answer is the one that is called for, or it was cut short
abbrev pub ComesTo : {T : Type 0} → Result T ExtractError → Result T ExtractError → Type 0
ComesTo result exact = IsCutShort result ⊎ (result ≡ exact)

-- an error tells of reading the body
abbrev pub IsOfReading : ExtractError → Type 0
IsOfReading (errors.Refused fault message) = ⊥
IsOfReading errors.BodyFault = ⊤
IsOfReading (errors.BodyTooLarge sum) = ⊤
IsOfReading (errors.FrameBudget count) = ⊤
IsOfReading errors.OutOfMemory = ⊥

-- an error of the size of a body, or of the number of its frames, has its cause in these frames
abbrev pub HasSizeCause : (limit budget : ℕ) → List Frame → ExtractError → Type 0
HasSizeCause limit budget frames (errors.Refused fault message) = ⊤
HasSizeCause limit budget frames errors.BodyFault = ⊤
HasSizeCause limit budget frames (errors.BodyTooLarge sum) = IsTooLarge limit budget frames sum
HasSizeCause limit budget frames (errors.FrameBudget count) = IsOverBudget limit budget frames count
HasSizeCause limit budget frames errors.OutOfMemory = ⊤

-- a body was read to its end, and this is its content
pub record IsReadToEnd (limit budget : ℕ) (old new : Option (List Frame)) : Type 0 where
  pub content : List ℕ
  pub reads : Reads limit budget old new (Ok content)

-- What an answer tells of the frames of a body that a slot reads: for arguments and for a refusal they were read to
-- their end; a size and a number of frames have their causes in those that came, and the rest was thrown away within
-- the budget; want of memory tells nothing of them.
abbrev pub ReadsFor : {T : Type 0} → (limit budget : ℕ) → (old new : Option (List Frame)) → Result T ExtractError
    → Type 0
ReadsFor limit budget old new (Ok given) = IsReadToEnd limit budget old new
ReadsFor limit budget old new (Err (errors.Refused fault message)) = IsReadToEnd limit budget old new
ReadsFor limit budget old new (Err errors.BodyFault) = Reads limit budget old new (Err reading.BodyFault)
ReadsFor limit budget old new (Err (errors.BodyTooLarge sum)) =
    Reads limit budget old new (Err (reading.BodyTooLarge sum))
ReadsFor limit budget old new (Err (errors.FrameBudget count)) =
    Reads limit budget old new (Err (reading.FrameBudget count))
ReadsFor limit budget old new (Err errors.OutOfMemory) = ⊤

-- an argument is pushed behind others, unless memory ran out; an error is the answer
abbrev pub IsPushed : List Arg → Result Arg ExtractError → Result (List Arg) ExtractError → Type 0
IsPushed args (Ok arg) result = (result ≡ Ok (args ++ arg ∷ [])) ⊎ (result ≡ Err errors.OutOfMemory)
IsPushed args (Err error) result = result ≡ Err error

-- what came of a source, as a body of at most one frame more than the budget, and the answer that it calls for; where
-- it is taken as a stream, the body is gathered of the source
pub record ComesOf {T : Type 0} (budget : ℕ) (streams : Bool) (old new : SourceState)
    (exact : BodyState → Result T ExtractError) (result : Result T ExtractError) : Type 0 where
  pub body : BodyState
  pub taken : TakesFrames old.left (frames_of body) new.left
  pub most : length (frames_of body) ≤ budget + 1
  pub answer : ComesTo result (exact body)
  pub gathers : streams ≡ true → OnOk result (GathersInto budget old new body)

-- what came of a source, and the answer on it: arguments are those that the request denotes with the body that came, and
-- a refusal is of the fault that is told first
pub record ComesFrom (terms : Terms) (slots : List Slot) (request : Request) (old new : SourceState)
    (result : GivenArgs) : Type 0 where
  pub comes : ComesOf terms.budget (list_any takes_stream slots) old new (extracted terms slots request) result
  pub denotes : IfOk result (Denotes terms slots (wire_of request (all_data (frames_of comes.body))) comes.body)
  pub refused : (fault : Fault) (message : List ℕ) → result ≡ Err (errors.Refused fault message)
      → args_told terms slots (wire_of request (all_data (frames_of comes.body))) comes.body
      ≡ Err (errors.Refused fault message)
