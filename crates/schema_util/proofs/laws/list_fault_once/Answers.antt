use Rattle.schema_util.proofs.Once.{list_fault_once}
use Rattle.schema_util.proofs.laws.list_fault_once.Goals as goal

pub returns : goal.returns
returns c = λ names schema fault other. list_fault_once names
