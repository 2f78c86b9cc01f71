use Rattle.std.proofs.Common.{ℕ, ◌≤◌, ◌<◌, ◌-◌, length, get_or}
use Rattle.schema_values.specs.Quoting.{IsUnescaped}
use Rattle.schema_values.proofs.quoting.end_of_run.Given as goal

abbrev pub invariant-loop-at : goal.invariant-loop-at
invariant-loop-at l = (l.from ≤ l.at) × (l.at ≤ length l.bytes) × ((k : ℕ) → l.from ≤ k → k < l.at → IsUnescaped (get_or l.bytes k 0))

abbrev pub decreases-loop-at : goal.decreases-loop-at
decreases-loop-at l = length l.bytes - l.at
