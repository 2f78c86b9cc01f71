use Rattle.descriptors.proofs.EqualTrees.{tree_eq-tells}
use Rattle.descriptors.proofs.tree.Tree.equals.Goals as goal

pub returns : goal.returns
returns c = rw c.eq.ensures (tree_eq-tells c.args.self.now c.args.other.now)
