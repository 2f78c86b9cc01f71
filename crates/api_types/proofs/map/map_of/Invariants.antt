use Rattle.std.proofs.Common.{◌≡◌, map, take}
use Rattle.api_types.specs.Maps.{pair_of}
use Rattle.api_types.proofs.map.map_of.Given as goal

abbrev pub invariant-loop-pair : goal.invariant-loop-pair
invariant-loop-pair g l = map (pair_of g.T.ApiType.tree_of) l.values.entries ≡ take l.pair-index l.pairs
