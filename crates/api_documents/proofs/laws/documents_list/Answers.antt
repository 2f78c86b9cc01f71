use Rattle.api_documents.proofs.ListsEndpoints.{lists_endpoints, lists_written}
use Rattle.api_documents.proofs.laws.documents_list.Goals as goal

pub returns-clause-lists : goal.returns-clause-lists
returns-clause-lists c = lists_endpoints

pub returns-clause-written : goal.returns-clause-written
returns-clause-written c = lists_written
