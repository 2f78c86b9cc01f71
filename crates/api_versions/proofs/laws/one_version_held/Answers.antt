use Rattle.api_versions.proofs.Pairs.{one_held}
use Rattle.api_versions.proofs.laws.one_version_held.Goals as goal

pub returns : goal.returns
returns c = one_held
