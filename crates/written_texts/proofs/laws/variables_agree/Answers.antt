use Rattle.written_texts.proofs.ParameterLists.{variables_are}
use Rattle.written_texts.proofs.laws.variables_agree.Goals as goal

pub returns : goal.returns
returns c = λ doc table desc fields flat defines required request in_pages. variables_are doc table desc fields flat defines request in_pages required
