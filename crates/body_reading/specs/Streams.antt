-- Bodies that are read content by content, and what comes next of their frames (of this library).
use Rattle.std.specs.Prelude.{ℕ, ◌≡◌, ◌⊎◌, ◌+◌, ◌-◌, nat_lt, if◌then◌else◌, Bool, true, false}
use Rattle.std.specs.Prelude.{List, [], ◌∷◌, ◌++◌, length, Option, Some, None, Result, Ok, Err}
use Rattle.http_bodies.specs.declared.frame.Frame.{Frame}
use Rattle.http_bodies.specs.declared.frame.Frame.TheVariants.{Bytes, Trailers}
use Rattle.http_bodies.specs.Bodies.{BodyState, frames_of}
use Rattle.http_bodies.specs.Frames.{all_data}
use Rattle.body_reading.specs.declared.flaw.BodyFlaw.{BodyFlaw}
use Rattle.body_reading.specs.declared.flaw.BodyFlaw.TheVariants as flaw
use Rattle.body_reading.specs.declared.refusal.StreamRefusal.{StreamRefusal}
use Rattle.body_reading.specs.declared.refusal.StreamRefusal.TheVariants as refused
use Rattle.body_reading.specs.Flaws.{flaw_error}

-- a body, the most bytes and frames that are read of it, how many came so far, and whether it is closed
pub record StreamState : Type 0 where
  pub body : BodyState
  pub cap : ℕ
  pub budget : ℕ
  pub sum : ℕ
  pub frames : ℕ
  pub closed : Bool

-- a reader that has read nothing
abbrev pub fresh_stream : BodyState → (cap budget : ℕ) → StreamState
fresh_stream body cap budget =
    record { body = body; cap = cap; budget = budget; sum = 0; frames = 0; closed = false }

-- a reader to which one frame more came, with this content
abbrev pub with_content : StreamState → List ℕ → StreamState
with_content stream content =
    record stream { sum = stream.sum + length content; frames = stream.frames + 1 }

-- a reader that an error closed, and that has this body left
abbrev pub closed_stream : StreamState → BodyState → StreamState
closed_stream stream body = record stream { body = body; closed = true }

-- how many frames may yet come
abbrev pub room_of : StreamState → ℕ
room_of stream = stream.budget - stream.frames

-- What comes next of these frames, where `room` frames may yet come and `sum` bytes came before: the end; a content,
-- unless the sum passes the cap with it, or no frame may come any more; or, behind trailers, what comes next behind them.
abbrev pub next_in : (cap sum room : ℕ) → List Frame → Result (Option (List ℕ)) BodyFlaw
next_in cap sum room [] = Ok None
next_in cap sum room ((Bytes content) ∷ frames) =
    if nat_lt cap (sum + length content) then Err (flaw.TooLarge cap)
    else if nat_lt 0 room then Ok (Some content) else Err flaw.FrameBudget
next_in cap sum room ((Trailers lines) ∷ frames) =
    if nat_lt 0 room then next_in cap sum (room - 1) frames else Err flaw.FrameBudget

-- what comes next to a reader
abbrev pub next_of : StreamState → Result (Option (List ℕ)) BodyFlaw
next_of stream = next_in stream.cap stream.sum (room_of stream) (frames_of stream.body)

-- the refusal that tells what is wrong with the body
abbrev pub refusal_of : BodyFlaw → StreamRefusal
refusal_of flaw.Fault = refused.Fault (flaw_error flaw.Fault)
refusal_of (flaw.TooLarge cap) = refused.TooLarge (flaw_error (flaw.TooLarge cap))
refusal_of flaw.FrameBudget = refused.FrameBudget (flaw_error flaw.FrameBudget)

-- the refusal of a body of which a call failed
abbrev pub stream_fault : StreamRefusal
stream_fault = refusal_of flaw.Fault

-- the answer that tells what comes next
abbrev pub answer_of : Result (Option (List ℕ)) BodyFlaw → Result (Option (List ℕ)) StreamRefusal
answer_of (Ok next) = Ok next
answer_of (Err wrong) = Err (refusal_of wrong)

-- an answer is the one that is called for, or a call failed, or memory ran out
abbrev pub IsAnswer : (exact result : Result (Option (List ℕ)) StreamRefusal) → Type 0
IsAnswer exact result = (result ≡ exact) ⊎ (result ≡ Err stream_fault) ⊎ (result ≡ Err refused.OutOfMemory)

-- the content is above the cap, or there are more frames than the budget
abbrev pub IsOver : Result (Option (List ℕ)) BodyFlaw → Type 0
IsOver (Ok next) = ⊥
IsOver (Err flaw.Fault) = ⊥
IsOver (Err (flaw.TooLarge cap)) = Unit {0}
IsOver (Err flaw.FrameBudget) = Unit {0}

-- a refusal for the size of the content or the number of frames
abbrev pub IsExcess : Result (Option (List ℕ)) StreamRefusal → Type 0
IsExcess (Ok next) = ⊥
IsExcess (Err (refused.TooLarge error)) = Unit {0}
IsExcess (Err (refused.FrameBudget error)) = Unit {0}
IsExcess (Err (refused.Fault error)) = ⊥
IsExcess (Err refused.Closed) = ⊥
IsExcess (Err refused.OutOfMemory) = ⊥

-- the contents of the frames that are no trailers, in order
abbrev pub contents : List Frame → List (List ℕ)
contents [] = []
contents ((Bytes content) ∷ frames) = content ∷ contents frames
contents ((Trailers lines) ∷ frames) = contents frames

-- a content that is given was the first of those that were left; none is given where none was left
abbrev pub InOrder : (before after : List Frame) → Option (List ℕ) → Type 0
InOrder before after (Some content) = contents before ≡ content ∷ contents after
InOrder before after None = (contents before ≡ []) × (after ≡ [])

-- frames were taken and counted, and the bytes of their content
pub record Advances (old new : StreamState) : Type 0 where
  pub came : List Frame
  pub taken : frames_of old.body ≡ came ++ frames_of new.body
  pub frames : new.frames ≡ old.frames + length came
  pub sum : new.sum ≡ old.sum + length (all_data came)

-- the limits are the same
pub record SameLimits (old new : StreamState) : Type 0 where
  pub cap : new.cap ≡ old.cap
  pub budget : new.budget ≡ old.budget
