use Rattle.api_documents.proofs.SharedErrors.{same_error-is}
use Rattle.api_documents.proofs.laws.same_errors_are_equal.Goals as goal

pub returns : goal.returns
returns c = same_error-is
