use Rattle.api_agreement.proofs.ToldSlots.{registered_fields}
use Rattle.api_agreement.proofs.laws.registered_fields_are_listed.Goals as goal

pub returns : goal.returns
returns c = registered_fields
