use Rattle.api_documents.proofs.SchemasFound.{defines_reached}
use Rattle.api_documents.proofs.laws.documents_define.Goals as goal

pub returns : goal.returns
returns c = defines_reached
