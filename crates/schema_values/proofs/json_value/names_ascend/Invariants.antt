use Rattle.std.specs.List.{AllAdjacentBelow}
use Rattle.schema_values.specs.AscendingMembers.{Precedes}
use Rattle.schema_values.proofs.json_value.names_ascend.Given as goal

abbrev pub invariant-loop-index : goal.invariant-loop-index
invariant-loop-index l = AllAdjacentBelow Precedes l.members l.index
