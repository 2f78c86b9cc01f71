use Rattle.schema_values.proofs.SameLemmas.{same-decides}
use Rattle.schema_values.proofs.laws.same_decides.Goals as goal

pub returns : goal.returns
returns c = same-decides
