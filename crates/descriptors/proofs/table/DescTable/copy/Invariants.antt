use Rattle.std.proofs.Common.{◌≡◌, take}
use Rattle.descriptors.proofs.table.DescTable.copy.Given as goal

abbrev pub invariant-loop-definition : goal.invariant-loop-definition
invariant-loop-definition l = l.definitions ≡ take l.definition-index l.definition-items
