use Rattle.std.proofs.Common.{◌≡◌, map, take}
use Rattle.api_types.proofs.list.trees_of.Given as goal

abbrev pub invariant-loop-value : goal.invariant-loop-value
invariant-loop-value g l = l.trees ≡ map g.T.ApiType.tree_of (take l.value-index l.values)
