use Rattle.std.proofs.Common.{◌≡◌, take}
use Rattle.schema_values.proofs.leaf_copy.copy_kinds.Given as goal

abbrev pub invariant-loop-kind : goal.invariant-loop-kind
invariant-loop-kind l = l.copies ≡ take l.kind-index l.kinds
