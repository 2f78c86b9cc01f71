use Rattle.std.proofs.Common.{arith}
use Rattle.descriptors.proofs.CallerLemmas.{one_more_copied, all_copied}
use Rattle.typed_values.proofs.fault.copy_places.Goals as goal

pub loop-place-preserved : goal.loop-place-preserved
loop-place-preserved c =
    one_more_copied c.args.places.now c.loop-place.copies c.loop-place.place-index c.loop-place.invariant _ c.place-item.result _ (omega arith) c.place-item.is c.in_ok-copy.ensures c.in_ok-push.ensures.ok

pub returns : goal.returns
returns c = all_copied c.args.places.now c.loop-place.copies c.loop-place.place-index c.loop-place.invariant (omega arith)
