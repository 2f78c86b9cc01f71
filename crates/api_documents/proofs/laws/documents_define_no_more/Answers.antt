use Rattle.api_documents.proofs.ErrorsFound.{refers_back}
use Rattle.api_documents.proofs.ReachedBack.{defines_no_more}
use Rattle.api_documents.proofs.laws.documents_define_no_more.Goals as goal

pub returns-clause-schemas : goal.returns-clause-schemas
returns-clause-schemas c = defines_no_more

pub returns-clause-responses : goal.returns-clause-responses
returns-clause-responses c = refers_back
