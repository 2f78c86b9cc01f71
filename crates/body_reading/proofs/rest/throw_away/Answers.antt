use Rattle.http_bodies.proofs.CallerLemmas.{called_never}
use Rattle.body_reading.proofs.rest.throw_away.Goals as goal

pub returns-then-room-eq0-clause-called : goal.returns-then-room-eq0-clause-called
returns-then-room-eq0-clause-called g c = called_never (g.S.FrameSource.state c.args.source.now).left (g.S.FrameSource.calls c.args.source.now)
