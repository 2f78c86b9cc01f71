use Rattle.descriptors.proofs.EqualDescs.{field_eq-tells}
use Rattle.descriptors.proofs.desc.Field.equals.Goals as goal

pub returns : goal.returns
returns c = rw c.eq.ensures (field_eq-tells c.args.self.now c.args.other.now)
