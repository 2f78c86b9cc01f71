use Rattle.descriptors.proofs.EqualDescs.{desc_eq-tells}
use Rattle.descriptors.proofs.desc.Desc.equals.Goals as goal

pub returns : goal.returns
returns c = rw c.eq.ensures (desc_eq-tells c.args.self.now c.args.other.now)
