use Rattle.schema_values.proofs.DepthLemmas.{reading_nested}
use Rattle.schema_values.proofs.laws.reads_nested.Goals as goal

pub returns : goal.returns
returns c = reading_nested
