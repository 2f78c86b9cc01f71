use Rattle.written_schemas.proofs.BodyLemmas.{body_agrees}
use Rattle.written_schemas.proofs.laws.bodies_agree.Goals as goal

pub returns : goal.returns
returns c = body_agrees
