use Rattle.std.proofs.Common.{◌≡◌, ◌++◌, List, map}
use Rattle.std.specs.List.{AllByRecursion}
use Rattle.api_types.specs.Maps.{pair_of, value_of}
use Rattle.api_types.specs.Types.{FitsEach}
use Rattle.api_types.proofs.map.all_fit.Given as goal

abbrev pub invariant-loop-key : goal.invariant-loop-key
invariant-loop-key g l =
    (done : List _) × (l.values.entries ≡ done ++ l.key-iterator)
    × AllByRecursion (λ pair. FitsEach g.T.ApiType.definitions_of g.T.ApiType.desc_of (value_of pair)) (map (pair_of g.T.ApiType.tree_of) done)
