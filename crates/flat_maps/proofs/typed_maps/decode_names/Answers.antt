use Rattle.flat_maps.proofs.FlatFits.{flat_fits}
use Rattle.flat_maps.proofs.typed_maps.decode_names.Goals as goal

pub returns-in-Ok-clause-fits : goal.returns-in-Ok-clause-fits
returns-in-Ok-clause-fits g c = flat_fits c.args.table.now c.args.desc.now (g.L.LookUp.names c.args.names.now) c.in-Ok.tree c.requires.table c.requires.desc c.in-Ok.ensures
