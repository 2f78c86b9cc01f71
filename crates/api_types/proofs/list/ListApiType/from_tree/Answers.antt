use Rattle.api_types.proofs.Composites.{list_one, items_one}
use Rattle.api_types.proofs.list.ListApiType.from_tree.Goals as goal

pub values_of-requires : goal.values_of-requires
values_of-requires g c = rw c.as_slice.ensures (items_one g.T.ApiType.definitions_of g.T.ApiType.desc_of c.args.tree.now c.in-List.trees c.requires c.in-List.is)

pub unreachable-requires : goal.unreachable-requires
unreachable-requires g c = let (ts, is, all) = list_one g.T.ApiType.definitions_of g.T.ApiType.desc_of c.args.tree.now c.requires in c.in_default.not-List ts is
