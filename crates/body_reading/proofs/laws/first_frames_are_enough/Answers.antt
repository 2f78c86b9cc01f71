use Rattle.std.proofs.Common.{add-one}
use Rattle.body_reading.proofs.Passing.{first_enough}
use Rattle.body_reading.proofs.laws.first_frames_are_enough.Goals as goal

pub returns : goal.returns
returns c cap sum room frames = rw add-one (first_enough cap sum room frames)
