-- What a body in memory is, what it shows as a source, and what a call on it leaves (of this library).
use Rattle.std.specs.Prelude.{ℕ, Bool, true, false, List, [], Some}
use Rattle.http_bodies.specs.declared.body.Held.{Held}
use Rattle.http_bodies.specs.declared.body.Held.TheVariants.{Nothing, Content, Frames, Faulty}
use Rattle.http_bodies.specs.declared.frame.Frame.{Frame}
use Rattle.http_bodies.specs.Frames.{SourceState, content_frames}
use Rattle.http_bodies.specs.Memory.{FrameMemory, after_frame_call, is_failing}

-- frames whose calls never fail, or frames some of whose calls fail
pub data BodyState : Type 0 where
  never_failing : List Frame → BodyState
  failing : FrameMemory → BodyState

-- the frames that are left
abbrev pub frames_of : BodyState → List Frame
frames_of (never_failing frames) = frames
frames_of (failing memory) = memory.frames

-- how many calls failed
abbrev pub faults_of : BodyState → ℕ
faults_of (never_failing frames) = 0
faults_of (failing memory) = memory.faults

-- how many calls were counted, which a body that never fails does not
abbrev pub calls_of : BodyState → ℕ
calls_of (never_failing frames) = 0
calls_of (failing memory) = memory.calls

-- whether a call can fail
abbrev pub can_fail_of : BodyState → Bool
can_fail_of (never_failing frames) = false
can_fail_of (failing memory) = true

-- what a body shows as a source, which tells its frames
abbrev pub state_of : BodyState → SourceState
state_of body = record { left = Some (frames_of body); faults = faults_of body; can_fail = can_fail_of body }

-- whether the next call fails
abbrev pub fails_next : BodyState → Bool
fails_next (never_failing frames) = false
fails_next (failing memory) = is_failing memory.failing memory.calls

-- a body after its next call, which leaves these frames
abbrev pub after_body_call : BodyState → List Frame → BodyState
after_body_call (never_failing before) frames = never_failing frames
after_body_call (failing memory) frames = failing (after_frame_call memory frames)

-- a body, by where its frames lie
abbrev pub held_body : Held → BodyState
held_body Nothing = never_failing []
held_body (Content content) = never_failing (content_frames content)
held_body (Frames frames) = never_failing frames
held_body (Faulty frames) = failing frames
