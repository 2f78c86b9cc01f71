use Rattle.api_extract.proofs.ArgFits.{denoted_fit}
use Rattle.api_extract.proofs.laws.denoted_arguments_fit.Goals as goal

pub returns : goal.returns
returns c terms slots request body args passes right denotes = denoted_fit terms slots request body passes right args denotes
