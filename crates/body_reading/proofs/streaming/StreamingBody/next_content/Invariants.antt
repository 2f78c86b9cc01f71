use Rattle.std.proofs.Common.{◌-◌}
use Rattle.body_reading.proofs.Passing.{Passes}
use Rattle.body_reading.proofs.streaming.StreamingBody.next_content.Given as goal

abbrev pub invariant-passing : goal.invariant-passing
invariant-passing l = Passes l.fn.self l.self

abbrev pub decreases-passing : goal.decreases-passing
decreases-passing l = l.self.budget - l.self.frames
