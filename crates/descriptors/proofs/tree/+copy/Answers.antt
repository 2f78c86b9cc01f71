use Rattle.std.proofs.Common.{arith}
use Rattle.descriptors.proofs.Copied.{one_more_copied, all_copied}
use Rattle.descriptors.proofs.tree.+copy.Goals as goal

pub copy_pairs-loop-pair-preserved : goal.copy_pairs-loop-pair-preserved
copy_pairs-loop-pair-preserved t c =
    one_more_copied c.args.pairs.now c.loop-pair.copies c.loop-pair.pair-index c.loop-pair.invariant _ c.pair-item.result _ (omega arith) c.pair-item.is c.in_ok-copy.ensures c.in_ok-push.ensures.ok

pub copy_pairs-returns : goal.copy_pairs-returns
copy_pairs-returns t c = all_copied c.args.pairs.now c.loop-pair.copies c.loop-pair.pair-index c.loop-pair.invariant (omega arith)

pub copy_trees-loop-tree-preserved : goal.copy_trees-loop-tree-preserved
copy_trees-loop-tree-preserved t c =
    one_more_copied c.args.trees.now c.loop-tree.copies c.loop-tree.tree-index c.loop-tree.invariant _ c.tree-item.result _ (omega arith) c.tree-item.is c.in_ok-copy.ensures c.in_ok-push.ensures.ok

pub copy_trees-returns : goal.copy_trees-returns
copy_trees-returns t c = all_copied c.args.trees.now c.loop-tree.copies c.loop-tree.tree-index c.loop-tree.invariant (omega arith)
