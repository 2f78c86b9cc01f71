use Rattle.descriptors.proofs.EqualDescs.{presence_eq-tells}
use Rattle.descriptors.proofs.desc.Presence.equals.Goals as goal

pub returns : goal.returns
returns c = rw c.eq.ensures (presence_eq-tells c.args.self.now c.args.other.now)
