use Rattle.written_schemas.proofs.Whole.{plain_agrees, titled_agrees, described_agrees}
use Rattle.written_schemas.proofs.laws.schemas_agree.Goals as goal

pub returns : goal.returns
returns c = record {
  plain = λ doc table desc. plain_agrees doc table desc;
  titled = λ doc table desc name written. titled_agrees doc table desc written name;
  described = λ doc table desc text written. described_agrees doc table desc written text;
}
