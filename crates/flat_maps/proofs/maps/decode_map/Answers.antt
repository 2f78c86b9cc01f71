use Rattle.flat_maps.specs.Maps.{map_values}
use Rattle.flat_maps.proofs.FlatFits.{flat_fits}
use Rattle.flat_maps.proofs.maps.decode_map.Goals as goal

pub returns-in-Ok-clause-fits : goal.returns-in-Ok-clause-fits
returns-in-Ok-clause-fits g c = flat_fits c.args.table.now c.args.desc.now (map_values g.Z.MapValue.given c.args.map.now) c.in-Ok.tree c.requires.table c.requires.desc c.in-Ok.ensures
