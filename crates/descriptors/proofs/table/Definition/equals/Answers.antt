use Rattle.descriptors.proofs.EqualDescs.{definition_eq-tells}
use Rattle.descriptors.proofs.table.Definition.equals.Goals as goal

pub returns : goal.returns
returns c = rw c.eq.ensures (definition_eq-tells c.args.self.now c.args.other.now)
