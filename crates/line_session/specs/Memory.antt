-- Ends in memory, and what a read from memory gives.
use Rattle.std.specs.Prelude.{ℕ, ◌≡◌, ◌+◌, ◌<◌, ◌≤◌, Bool, min, ◌-◌, ◌^◌, nat_lt, ◌&&◌, ◌==◌, if◌then◌else◌, List, [], length, take, drop}
use Rattle.std.specs.Prelude.{◌↔◌, IfOk, IsErrOf, IsTrue, Result, is_err}
use Rattle.std.specs.List.{list_any}
use Rattle.line_session.specs.declared.ends.SinkError.{SinkError}
use Rattle.line_session.specs.declared.ends.SinkError.TheVariants.{Failed}

-- the first `count` bytes of buf are those of content from `at` on, as many as there are and fit
pub record CopiesFront (content : List ℕ) (at : ℕ) (buf : List ℕ) (count : ℕ) : Type 0 where
  pub fits : count ≤ length buf
  pub there : count + at ≤ length content
  pub front : take count buf ≡ take count (drop at content)
  pub none : count ≡ 0 → 0 < length buf → drop at content ≡ []
  pub whole : count ≡ min (length (drop at content)) (length buf)

-- the call with this number is one of those that fail; the last number of a counter is none
abbrev pub is_failing : List ℕ → ℕ → Bool
is_failing failing number = nat_lt number (2 ^ 64 - 1) && list_any (λ n. n == number) failing

-- one more, up to the last value of a counter
abbrev pub one_more : ℕ → ℕ
one_more n = min (n + 1) (2 ^ 64 - 1)

-- An end in memory: the bytes that a source has left or a sink has taken, the numbers of the calls that fail, and how
-- many calls and faults were counted.
pub record MemoryState : Type 0 where
  pub bytes : List ℕ
  pub failing : List ℕ
  pub calls : ℕ
  pub faults : ℕ

-- an end that was not called yet
abbrev pub fresh : List ℕ → List ℕ → MemoryState
fresh bytes failing = record { bytes = bytes; failing = failing; calls = 0; faults = 0 }

-- the end after its next call, which leaves these bytes
abbrev pub after_call : MemoryState → List ℕ → MemoryState
after_call s bytes = record {
  bytes = bytes;
  failing = s.failing;
  calls = one_more s.calls;
  faults = if is_failing s.failing s.calls then one_more s.faults else s.faults;
}

-- what is read from an end in memory: as many bytes as are left and have room
abbrev pub ReadsWhole : {E : Type 0} → List ℕ → List ℕ → Result ℕ E → Type 0
ReadsWhole left buf result = IfOk result (λ count. count ≡ min (length left) (length buf))

-- what is written to one: the whole piece
abbrev pub WritesWhole : {E : Type 0} → List ℕ → Result ℕ E → Type 0
WritesWhole piece result = IfOk result (λ count. count ≡ length piece)

-- what a call of an end in memory says of itself: it fails where it is to fail and nowhere else, is counted, and reads or
-- writes the whole
pub record IsMemoryRead {E : Type 0} (old : MemoryState) (buf : List ℕ) (result : Result ℕ E) (new : MemoryState) : Type 0 where
  pub exactly : is_err result ≡ is_failing old.failing old.calls
  pub after : new ≡ after_call old new.bytes
  pub whole : ReadsWhole old.bytes buf result

pub record IsMemoryWrite (old : MemoryState) (piece : List ℕ) (result : Result ℕ SinkError) (new : MemoryState) : Type 0 where
  pub exactly : IsErrOf result Failed ↔ IsTrue (is_failing old.failing old.calls)
  pub after : new ≡ after_call old new.bytes
  pub whole : WritesWhole piece result
