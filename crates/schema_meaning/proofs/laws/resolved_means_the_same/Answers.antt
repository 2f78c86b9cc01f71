use Rattle.schema_meaning.proofs.Resolved.{resolved_agrees}
use Rattle.schema_meaning.proofs.laws.resolved_means_the_same.Goals as goal

pub returns : goal.returns
returns c = λ names definitions schema found same accepted comes json. resolved_agrees names definitions schema found same accepted comes json
