use Rattle.schema_meaning.proofs.Whole.{written_agrees}
use Rattle.schema_meaning.proofs.laws.schemas_agree.Goals as goal

pub returns : goal.returns
returns c = λ doc definitions schema title accepted defines json. written_agrees doc definitions schema title accepted defines json
