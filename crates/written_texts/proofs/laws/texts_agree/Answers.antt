use Rattle.written_texts.proofs.Whole.{plain_agree, titled_agree, described_agree, header_agree, query_agree}
use Rattle.written_texts.proofs.laws.texts_agree.Goals as goal

pub returns : goal.returns
returns c = record {
  plain = plain_agree;
  titled = λ doc table desc name written scalar. titled_agree doc table desc written scalar name;
  described = λ doc table desc text written scalar. described_agree doc table desc written scalar text;
  header = header_agree;
  query = query_agree;
}
