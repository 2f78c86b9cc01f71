use Rattle.api_agreement.proofs.AcceptedTogether.{may_be_listed}
use Rattle.api_agreement.proofs.laws.accepted_may_be_listed.Goals as goal

pub returns : goal.returns
returns c = λ ds version. may_be_listed version ds
