use Rattle.descriptors.proofs.EqualDescs.{tagged_eq-tells}
use Rattle.descriptors.proofs.desc.TaggedVariant.equals.Goals as goal

pub returns : goal.returns
returns c = rw c.eq.ensures (tagged_eq-tells c.args.self.now c.args.other.now)
