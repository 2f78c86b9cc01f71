use Rattle.descriptors.proofs.EqualDescs.{named_eq-tells}
use Rattle.descriptors.proofs.desc.Named.equals.Goals as goal

pub returns : goal.returns
returns c = rw c.eq.ensures (named_eq-tells c.args.self.now c.args.other.now)
