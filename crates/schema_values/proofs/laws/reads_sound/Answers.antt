use Rattle.schema_values.proofs.SoundReadings.{reading_sound}
use Rattle.schema_values.proofs.laws.reads_sound.Goals as goal

pub returns : goal.returns
returns c = reading_sound
