use Rattle.std.proofs.Common.{map}
use Rattle.api_types.specs.Maps.{pair_of}
use Rattle.api_types.proofs.Composites.{map_each}
use Rattle.api_types.proofs.map.BTreeMapTextApiType.fits.Goals as goal

pub returns : goal.returns
returns g c =
    map_each g.T.ApiType.definitions_of g.T.ApiType.desc_of (map (pair_of g.T.ApiType.tree_of) c.args.self.now.entries) c.all_fit.ensures.ascending c.all_fit.ensures.fit
