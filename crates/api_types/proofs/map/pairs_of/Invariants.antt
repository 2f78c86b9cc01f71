use Rattle.std.proofs.Common.{◌≡◌, ◌++◌, List, map}
use Rattle.api_types.specs.Maps.{pair_of}
use Rattle.api_types.proofs.map.pairs_of.Given as goal

abbrev pub invariant-loop-key : goal.invariant-loop-key
invariant-loop-key g l = (done : List _) × (l.values.entries ≡ done ++ l.key-iterator) × (l.pairs ≡ map (pair_of g.T.ApiType.tree_of) done)
