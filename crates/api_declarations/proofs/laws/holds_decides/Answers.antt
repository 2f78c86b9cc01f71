use Rattle.api_declarations.proofs.Held.{held}
use Rattle.api_declarations.proofs.laws.holds_decides.Goals as goal

pub returns : goal.returns
returns c = held
