use Rattle.std.proofs.Common.{◌-◌, ◌∙◌, arith}
use Rattle.typed_values.proofs.Paths.{behind_more}
use Rattle.typed_values.proofs.path.push_places.Goals as goal

pub loop-i-preserved : goal.loop-i-preserved
loop-i-preserved c =
    c.in_ok-push_place.ensures
    ∙ behind_more c.args.places.now (c.loop-i.i - 1) c.loop-i.i c.index-places-i.result (omega arith) (omega arith) c.index-places-i.is c.args.text.now c.loop-i.text c.loop-i.invariant
