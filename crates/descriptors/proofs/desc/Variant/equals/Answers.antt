use Rattle.descriptors.proofs.EqualDescs.{variant_eq-tells}
use Rattle.descriptors.proofs.desc.Variant.equals.Goals as goal

pub returns : goal.returns
returns c = rw c.eq.ensures (variant_eq-tells c.args.self.now c.args.other.now)
