use Rattle.std.proofs.Common.{◌≡◌, map, take}
use Rattle.api_types.proofs.list.values_of.Given as goal

abbrev pub invariant-loop-tree : goal.invariant-loop-tree
invariant-loop-tree g l = map g.T.ApiType.tree_of l.values ≡ take l.tree-index l.trees
