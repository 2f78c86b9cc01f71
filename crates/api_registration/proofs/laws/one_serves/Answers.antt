use Rattle.std.proofs.Common.{[]}
use Rattle.api_registration.proofs.ServedOnce.{served_once}
use Rattle.api_registration.proofs.laws.one_serves.Goals as goal

pub returns : goal.returns
returns c = λ es version method template accepted e inside s. served_once version method template [] es e accepted inside s
