use Rattle.schema_values.proofs.Utf8Order.{cmp-encodes}
use Rattle.schema_values.proofs.laws.bytes_in_order.Goals as goal

pub returns : goal.returns
returns c = cmp-encodes
