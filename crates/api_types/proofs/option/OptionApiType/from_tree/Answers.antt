use Rattle.api_types.proofs.Composites.{some_one, none_one}
use Rattle.api_types.proofs.option.OptionApiType.from_tree.Goals as goal

pub from_tree-requires : goal.from_tree-requires
from_tree-requires g c = rw c.get.ensures (some_one g.T.ApiType.definitions_of g.T.ApiType.desc_of c.args.tree.now c.in-Some.tree c.requires c.in-Some.is)

pub returns-in_default : goal.returns-in_default
returns-in_default g c = none_one g.T.ApiType.definitions_of g.T.ApiType.desc_of c.args.tree.now c.requires c.in_default.not-Some
