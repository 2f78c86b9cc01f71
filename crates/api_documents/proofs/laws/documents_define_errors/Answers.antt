use Rattle.api_documents.proofs.ErrorsFound.{leads_to_error}
use Rattle.api_documents.proofs.laws.documents_define_errors.Goals as goal

pub returns : goal.returns
returns c = leads_to_error
