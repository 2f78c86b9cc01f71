use Rattle.std.proofs.Common.{map}
use Rattle.api_types.proofs.Composites.{list_each}
use Rattle.api_types.proofs.list.ListApiType.fits.Goals as goal

pub returns : goal.returns
returns g c = list_each g.T.ApiType.definitions_of g.T.ApiType.desc_of (map g.T.ApiType.tree_of c.args.self.now) (rw c.as_slice.ensures at c.all_fit.ensures)
