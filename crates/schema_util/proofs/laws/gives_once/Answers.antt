use Rattle.schema_util.proofs.GivesOnce.{gives_once}
use Rattle.schema_util.proofs.laws.gives_once.Goals as goal

pub returns : goal.returns
returns c = λ names met required schema end other. gives_once names
