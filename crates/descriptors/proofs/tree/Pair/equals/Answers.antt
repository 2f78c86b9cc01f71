use Rattle.descriptors.proofs.EqualTrees.{pair_eq-tells}
use Rattle.descriptors.proofs.tree.Pair.equals.Goals as goal

pub returns : goal.returns
returns c = rw c.eq.ensures (pair_eq-tells c.args.self.now c.args.other.now)
