use Rattle.line_session.proofs.ServedBy.{not_replied, replied-by}
use Rattle.line_session.proofs.serving.answer.Goals as goal

pub returns-in-Ok-clause-calls : goal.returns-in-Ok-clause-calls
returns-in-Ok-clause-calls g c =
    replied-by (g.A.Answering.answers c.args.answering.now) (g.A.Answering.lost c.args.answering.now) g.K.Sink
    c.args.sink.now c.write_line.new.sink c.args.state.now c.answer.new.state c.args.line.now
    c.in-Ok.reply c.write_line.result c.in-Ok.ensures.ok c.write_line.ensures.calls

pub returns-in-Err-clause-calls : goal.returns-in-Err-clause-calls
returns-in-Err-clause-calls g c =
    not_replied (g.A.Answering.answers c.args.answering.now) (g.A.Answering.lost c.args.answering.now) g.K.Sink
    c.args.sink.now c.args.state.now c.answer.new.state c.args.line.now c.in-Err.ensures.err
