-- Frames in memory some of whose calls fail (of this library).
use Rattle.std.specs.Prelude.{ℕ, ◌+◌, ◌-◌, ◌^◌, Bool, min, nat_lt, ◌&&◌, ◌==◌, if◌then◌else◌, List}
use Rattle.std.specs.List.{list_any}
use Rattle.http_bodies.specs.declared.frame.Frame.{Frame}

-- the call with this number is one of those that fail; the last number of a counter is none
abbrev pub is_failing : List ℕ → ℕ → Bool
is_failing failing number = nat_lt number (2 ^ 64 - 1) && list_any (λ n. n == number) failing

-- one more, up to the last value of a counter
abbrev pub one_more : ℕ → ℕ
one_more n = min (n + 1) (2 ^ 64 - 1)

-- the frames that are left, the numbers of the calls that fail, and how many calls and faults were counted
pub record FrameMemory : Type 0 where
  pub frames : List Frame
  pub failing : List ℕ
  pub calls : ℕ
  pub faults : ℕ

-- frames of which none was asked for yet
abbrev pub fresh_frames : List Frame → List ℕ → FrameMemory
fresh_frames frames failing = record { frames = frames; failing = failing; calls = 0; faults = 0 }

-- after the next call, which leaves these frames
abbrev pub after_frame_call : FrameMemory → List Frame → FrameMemory
after_frame_call memory frames = record {
  frames = frames;
  failing = memory.failing;
  calls = one_more memory.calls;
  faults = if is_failing memory.failing memory.calls then one_more memory.faults else memory.faults;
}
