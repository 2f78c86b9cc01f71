use Rattle.written_texts.proofs.ParameterLists.{headers_are}
use Rattle.written_texts.proofs.laws.headers_agree.Goals as goal

pub returns : goal.returns
returns c = headers_are
