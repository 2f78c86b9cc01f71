use Rattle.api_documents.specs.Listed.{listed}
use Rattle.api_documents.proofs.SoundDocument.{listing_sound}
use Rattle.api_documents.proofs.laws.documents_sound.Goals as goal

pub returns : goal.returns
returns c = λ version ds configured info may. listing_sound (listed version ds) configured info may
