use Rattle.api_types.proofs.Composites.{map_one, entries_one}
use Rattle.api_types.proofs.map.BTreeMapTextApiType.from_tree.Goals as goal

pub map_of-requires-clause-ascending : goal.map_of-requires-clause-ascending
map_of-requires-clause-ascending g c =
    rw c.as_slice.ensures ((entries_one g.T.ApiType.definitions_of g.T.ApiType.desc_of c.args.tree.now c.in-Map.pairs c.requires c.in-Map.is).0)

pub map_of-requires-clause-fit : goal.map_of-requires-clause-fit
map_of-requires-clause-fit g c =
    rw c.as_slice.ensures ((entries_one g.T.ApiType.definitions_of g.T.ApiType.desc_of c.args.tree.now c.in-Map.pairs c.requires c.in-Map.is).1)

pub unreachable-requires : goal.unreachable-requires
unreachable-requires g c =
    let (ps, is, ascends, all) = map_one g.T.ApiType.definitions_of g.T.ApiType.desc_of c.args.tree.now c.requires in c.in_default.not-Map ps is
