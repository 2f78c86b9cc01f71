use Rattle.api_declarations.proofs.Served.{served}
use Rattle.api_declarations.proofs.laws.serves_decides.Goals as goal

pub returns : goal.returns
returns c = served
