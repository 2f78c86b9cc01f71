use Rattle.schema_values.proofs.AscendingReadings.{reading_ascends}
use Rattle.schema_values.proofs.laws.reads_ascending.Goals as goal

pub returns : goal.returns
returns c = reading_ascends
