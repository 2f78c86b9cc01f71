use Rattle.written_texts.proofs.PageLists.{limit_stands, none_required}
use Rattle.written_texts.proofs.laws.page_parameters_are.Goals as goal

pub returns : goal.returns
returns c = record { optional = none_required; limit = limit_stands }
