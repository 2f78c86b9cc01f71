use Rattle.sample_types.specs.Shapes.{inner_shape}
use Rattle.sample_api.proofs.Answered.{no_arguments}
use Rattle.sample_api.proofs.inner.answer.Goals as goal

pub returns-clause-tells : goal.returns-clause-tells
returns-clause-tells c = rw (no_arguments inner_shape.table c.args.args.now c.requires.fit) c.tell.ensures.tells
