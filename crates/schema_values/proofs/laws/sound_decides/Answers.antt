use Rattle.schema_values.proofs.SoundTests.{sound-decides}
use Rattle.schema_values.proofs.laws.sound_decides.Goals as goal

pub returns : goal.returns
returns c = sound-decides
