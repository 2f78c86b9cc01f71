use Rattle.written_texts.proofs.PageTexts.{first_pages, later_pages}
use Rattle.written_texts.proofs.laws.pages_agree.Goals as goal

pub returns : goal.returns
returns c = record {
  first = λ doc table desc fields flat defines no_limit request before after none. first_pages doc table request before fields after no_limit desc flat defines none;
  later = λ doc table fields no_limit no_token request before after some. later_pages doc table request before fields after no_limit no_token some;
}
