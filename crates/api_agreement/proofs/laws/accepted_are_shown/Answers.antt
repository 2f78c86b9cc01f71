use Rattle.api_agreement.proofs.AcceptedSlots.{shown_slots}
use Rattle.api_agreement.proofs.laws.accepted_are_shown.Goals as goal

pub returns : goal.returns
returns c = λ before d may. shown_slots may.0 before d may.1
