use Rattle.std.proofs.Common.{inl, refl}
use Rattle.std.proofs.lemmas.Result.{err_from_is_err_and}
use Rattle.endpoint_answers.proofs.handling.handle.Goals as goal

-- the handler was not called
pub returns-in_err-context-clause-lost : goal.returns-in_err-context-clause-lost
returns-in_err-context-clause-lost g c =
    let p = err_from_is_err_and c.from_residual.result c.from_residual.ensures.1 in
    rw p.1 (inl refl)

-- the handler was called, and what comes of that is handed on
pub returns-clause-sent : goal.returns-clause-sent
returns-clause-sent g c = c.reply_in.ensures.sent c.args.config.now c.args.request.now c.in_ok-context.ensures

pub returns-clause-lost : goal.returns-clause-lost
returns-clause-lost g c = c.reply_in.ensures.lost c.args.config.now c.args.request.now c.in_ok-context.ensures
