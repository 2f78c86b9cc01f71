use Rattle.std.proofs.Common.{◌+◌, ◌≤◌}
use Rattle.body_reading.proofs.Gathering.{IsGathering}
use Rattle.body_reading.proofs.gather.gather_frames.Given as goal

abbrev pub invariant-loop-count : goal.invariant-loop-count
invariant-loop-count g l = record {
  gathering : IsGathering (g.S.FrameSource.state l.fn.source) (g.S.FrameSource.state l.source) l.frames l.count;
  calls : g.S.FrameSource.calls l.source ≤ g.S.FrameSource.calls l.fn.source + l.count;
}
