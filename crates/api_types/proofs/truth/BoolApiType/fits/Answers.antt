use Rattle.api_types.proofs.Leaves.{truth_each}
use Rattle.api_types.proofs.truth.BoolApiType.fits.Goals as goal

pub returns : goal.returns
returns c = truth_each c.args.self.now
