use Rattle.schema_values.proofs.CallerLemmas.{sound-decides}
use Rattle.api_types.proofs.Leaves.{whole_each}
use Rattle.api_types.proofs.any_value.AnyValueApiType.fits.Goals as goal

pub returns : goal.returns
returns c = whole_each c.args.self.now ((sound-decides c.args.self.now).1 c.json.ensures.sound)
