use Rattle.openapi_values.proofs.ListedOperations.{operations-admitted}
use Rattle.openapi_values.proofs.laws.operations_admitted.Goals as goal

pub returns : goal.returns
returns c = operations-admitted
