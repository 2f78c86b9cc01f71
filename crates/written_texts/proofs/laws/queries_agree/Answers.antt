use Rattle.written_texts.proofs.ParameterLists.{queries_are}
use Rattle.written_texts.proofs.laws.queries_agree.Goals as goal

pub returns : goal.returns
returns c = queries_are
