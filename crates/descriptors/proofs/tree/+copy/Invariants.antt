use Rattle.std.proofs.Common.{◌≡◌, take}
use Rattle.descriptors.proofs.tree.+copy.Given as goal

abbrev pub invariant-copy_trees-loop-tree : goal.invariant-copy_trees-loop-tree
invariant-copy_trees-loop-tree l = l.copies ≡ take l.tree-index l.trees

abbrev pub invariant-copy_pairs-loop-pair : goal.invariant-copy_pairs-loop-pair
invariant-copy_pairs-loop-pair l = l.copies ≡ take l.pair-index l.pairs
