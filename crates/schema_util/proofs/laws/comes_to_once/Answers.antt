use Rattle.schema_util.proofs.Once.{comes_to_once}
use Rattle.schema_util.proofs.laws.comes_to_once.Goals as goal

pub returns : goal.returns
returns c = λ names met schema end other. comes_to_once names
