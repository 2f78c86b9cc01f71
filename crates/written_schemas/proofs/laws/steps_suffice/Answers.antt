use Rattle.written_schemas.proofs.MoreSteps.{more_steps}
use Rattle.written_schemas.proofs.Whole.{plain_steps, titled_steps, described_steps}
use Rattle.written_schemas.proofs.laws.steps_suffice.Goals as goal

pub returns : goal.returns
returns c = record {
  told = more_steps;
  plain = λ doc table desc. plain_steps doc table desc;
  titled = λ doc table desc name written. titled_steps doc table desc written name;
  described = λ doc table desc text written. described_steps doc table desc written text;
}
