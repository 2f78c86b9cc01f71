use Rattle.api_types.proofs.Leaves.{number_each, kind_holds}
use Rattle.api_types.proofs.number.number_fits.Goals as goal

pub returns : goal.returns
returns c = number_each c.args.kind c.args.number (kind_holds c.args.kind c.args.number c.requires.least c.requires.greatest)
