use Rattle.std.proofs.Common.{◌+◌, ◌≤◌}
use Rattle.body_reading.proofs.Reading.{IsReading}
use Rattle.body_reading.proofs.whole.read_whole.Given as goal

abbrev pub invariant-loop-count : goal.invariant-loop-count
invariant-loop-count g l = record {
  reading :
      IsReading (g.S.FrameSource.state l.fn.source) (g.S.FrameSource.state l.source) l.limit l.content.items l.count;
  spared : g.S.FrameSource.asks l.source → g.S.FrameSource.asks l.fn.source;
  calls : g.S.FrameSource.calls l.source ≤ g.S.FrameSource.calls l.fn.source + l.count;
}
