use Rattle.openapi_values.proofs.Stands.{definition-stands}
use Rattle.openapi_values.proofs.laws.definitions_stand.Goals as goal

pub returns : goal.returns
returns c = definition-stands
