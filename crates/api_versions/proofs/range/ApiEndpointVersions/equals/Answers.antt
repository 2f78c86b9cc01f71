use Rattle.api_versions.proofs.Equal.{same_range}
use Rattle.api_versions.proofs.range.ApiEndpointVersions.equals.Goals as goal

pub returns : goal.returns
returns c = rw c.eq.ensures (same_range c.args.self.now c.args.other.now)
