use Rattle.std.proofs.Common.{length}
use Rattle.handler_shapes.proofs.body_slots.+body_comes_last.Given as goal

abbrev pub decreases-body_comes_last : goal.decreases-body_comes_last
decreases-body_comes_last l = length l.slots.now
