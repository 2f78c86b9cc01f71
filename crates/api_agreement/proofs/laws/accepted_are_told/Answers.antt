use Rattle.api_agreement.proofs.ToldSlots.{asked_alike, well_typed}
use Rattle.api_agreement.proofs.laws.accepted_are_told.Goals as goal

pub returns-clause-typed : goal.returns-clause-typed
returns-clause-typed c = well_typed

pub returns-clause-alike : goal.returns-clause-alike
returns-clause-alike c = asked_alike
