use Rattle.api_versions.proofs.Orders.{version_total}
use Rattle.api_versions.proofs.laws.order_is_total.Goals as goal

pub returns : goal.returns
returns c = version_total
