use Rattle.api_versions.proofs.Orders.{version_anti}
use Rattle.api_versions.proofs.laws.ties_are_the_same.Goals as goal

pub returns : goal.returns
returns c = version_anti
