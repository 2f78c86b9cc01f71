use Rattle.std.proofs.Common.{◌+◌, ◌≤◌}
use Rattle.http_bodies.proofs.Dumping.{IsDumping}
use Rattle.http_bodies.proofs.dump.http_dump_body.Given as goal

abbrev pub invariant-loop : goal.invariant-loop
invariant-loop g l = record {
  dumping : IsDumping (g.B.FrameSource.state l.fn.body) (g.B.FrameSource.state l.body) l.sum l.counter;
  spared : g.B.FrameSource.asks l.body → g.B.FrameSource.asks l.fn.body;
  calls : g.B.FrameSource.calls l.body ≤ g.B.FrameSource.calls l.fn.body + l.counter;
}
