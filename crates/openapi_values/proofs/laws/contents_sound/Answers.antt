use Rattle.openapi_values.proofs.SoundSchemas.{schema_sound}
use Rattle.openapi_values.proofs.laws.contents_sound.Goals as goal

pub returns : goal.returns
returns c = schema_sound
