use Rattle.body_reading.proofs.Outcomes.{whole_read}
use Rattle.body_reading.proofs.laws.bodies_within_limits_are_read.Goals as goal

pub returns : goal.returns
returns c = whole_read
