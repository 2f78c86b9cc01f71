use Rattle.api_types.proofs.Leaves.{number_reaches}
use Rattle.api_types.proofs.number.number_reach.Goals as goal

pub returns : goal.returns
returns c = number_reaches c.args.kind
