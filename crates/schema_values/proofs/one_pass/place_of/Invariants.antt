use Rattle.std.proofs.Common.{◌≤◌, drop, length}
use Rattle.schema_values.proofs.Placing.{AreAbove}
use Rattle.schema_values.proofs.one_pass.place_of.Given as goal

abbrev pub invariant-loop-index : goal.invariant-loop-index
invariant-loop-index l = (l.index ≤ length l.members) × AreAbove l.name (drop l.index l.members)

abbrev pub decreases-loop-index : goal.decreases-loop-index
decreases-loop-index l = l.index
