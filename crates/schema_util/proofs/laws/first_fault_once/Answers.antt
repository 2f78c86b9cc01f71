use Rattle.schema_util.proofs.Once.{first_fault_once}
use Rattle.schema_util.proofs.laws.first_fault_once.Goals as goal

pub returns : goal.returns
returns c = λ asked names met schema fault other. first_fault_once asked names
