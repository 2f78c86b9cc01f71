use Rattle.std.proofs.Common.{◌∙◌, ap, drop}
use Rattle.line_session.specs.Reading.{Reading}
use Rattle.line_session.proofs.Pieces.{rest_pending}
use Rattle.line_session.proofs.line_reader.LineReader.advance.Goals as goal

pub returns-clause-pending : goal.returns-clause-pending
returns-clause-pending c =
    rest_pending c.self.inside.piece.items c.self.inside.at c.self.inside.filled
    ∙ ap (λ (r : Reading). drop 1 r.pending) c.self.view_is
