use Rattle.openapi_values.proofs.SoundDocuments.{document_sound}
use Rattle.openapi_values.proofs.laws.documents_sound.Goals as goal

pub returns : goal.returns
returns c = document_sound
