use Rattle.schema_meaning.proofs.Whole.{written_steps, meant_steps}
use Rattle.schema_meaning.proofs.laws.steps_suffice.Goals as goal

pub returns : goal.returns
returns c = record {
  meant = λ definitions schema accepted. meant_steps definitions schema accepted;
  written = λ doc definitions schema title accepted defines. written_steps doc definitions schema title accepted defines;
}
