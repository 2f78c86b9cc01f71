-- Frames that are read and thrown away (of this library).
use Rattle.std.specs.Prelude.{ℕ, ◌≡◌, ◌⊎◌, ◌↔◌, ◌+◌, ◌-◌, ◌^◌, ◌<◌, ◌≤◌, min, nat_lt, if◌then◌else◌}
use Rattle.std.specs.Prelude.{List, length, Option, Result, Ok, Err, OnOk, IfOk, IsErrOf}
use Rattle.http_bodies.specs.declared.dump.DumpError.{DumpError}
use Rattle.http_bodies.specs.declared.dump.DumpError.TheVariants as dumping
use Rattle.http_bodies.specs.declared.frame.Frame.{Frame}
use Rattle.http_bodies.specs.declared.frame.FrameError.{FrameError}
use Rattle.http_bodies.specs.declared.frame.FrameError.TheVariants as reading
use Rattle.http_bodies.specs.Frames.{all_data}
use Rattle.http_bodies.specs.Sources.{IsAtEnd, TakesFrames}

-- how many bytes of content frames have, or the last value of a counter where that is less
abbrev pub data_size : List Frame → ℕ
data_size frames = min (length (all_data frames)) (2 ^ 64 - 1)

-- what frames and budget call for
abbrev pub dumped : ℕ → List Frame → Result ℕ DumpError
dumped budget frames = if nat_lt budget (length frames) then Err dumping.FrameBudget else Ok (data_size frames)

-- an answer is the one called for, or memory ran out
abbrev pub IsOrRanOut : Result ℕ DumpError → Result ℕ DumpError → Type 0
IsOrRanOut exact result = (result ≡ exact) ⊎ (result ≡ Err dumping.OutOfMemory)

-- what dumping answers where a call gives no frame
abbrev pub dump_error_of : FrameError → DumpError
dump_error_of reading.Failed = dumping.Failed
dump_error_of reading.OutOfMemory = dumping.OutOfMemory

-- The frames that came in a call, and what its answer says of them. Where the source does not tell what is left, they
-- are any that fit the answer.
pub record Dumps (budget : ℕ) (old new : Option (List Frame)) (result : Result ℕ DumpError) : Type 0 where
  pub came : List Frame
  pub taken : TakesFrames old came new
  pub most : length came ≤ budget + 1
  pub over : IsErrOf result dumping.FrameBudget ↔ (budget < length came)
  pub ended : OnOk result (IsAtEnd new)
  pub size : IfOk result (λ sum. sum ≡ data_size came)
