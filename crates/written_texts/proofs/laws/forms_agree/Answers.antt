use Rattle.written_texts.proofs.FormSchemas.{plain_are, titled_are, described_are}
use Rattle.written_texts.proofs.laws.forms_agree.Goals as goal

pub returns : goal.returns
returns c = record {
  plain = plain_are;
  titled = λ doc table desc fields name flat defines pairs. titled_are doc table desc fields flat defines pairs name;
  described = λ doc table desc fields text flat defines pairs. described_are doc table desc fields flat defines pairs text;
}
