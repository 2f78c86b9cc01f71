use Rattle.std.proofs.Common.{map, take}
use Rattle.std.specs.List.{AllByRecursion}
use Rattle.api_types.specs.Types.{FitsEach}
use Rattle.api_types.proofs.list.all_fit.Given as goal

abbrev pub invariant-loop-value : goal.invariant-loop-value
invariant-loop-value g l = AllByRecursion (FitsEach g.T.ApiType.definitions_of g.T.ApiType.desc_of) (map g.T.ApiType.tree_of (take l.value-index l.values))
