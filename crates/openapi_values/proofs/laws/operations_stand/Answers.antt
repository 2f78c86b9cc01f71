use Rattle.openapi_values.proofs.Stands.{operation-stands}
use Rattle.openapi_values.proofs.laws.operations_stand.Goals as goal

pub returns : goal.returns
returns c = operation-stands
