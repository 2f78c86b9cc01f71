use Rattle.std.proofs.Common.{arith}
use Rattle.descriptors.proofs.Copied.{one_more_copied, all_copied}
use Rattle.descriptors.proofs.desc.copy_names.Goals as goal

pub loop-name-preserved : goal.loop-name-preserved
loop-name-preserved c =
    one_more_copied c.args.names.now c.loop-name.copies c.loop-name.name-index c.loop-name.invariant _ c.name-item.result _ (omega arith) c.name-item.is c.in_ok-copy.ensures c.in_ok-push.ensures.ok

pub returns : goal.returns
returns c = all_copied c.args.names.now c.loop-name.copies c.loop-name.name-index c.loop-name.invariant (omega arith)
