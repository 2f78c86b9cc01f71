use Rattle.std.proofs.Common.{◌∙◌, ap, subst}
use Rattle.std.proofs.lemmas.Result.{IfOk-weaker}
use Rattle.http_bodies.specs.Bodies.{BodyState, never_failing}
use Rattle.endpoint_answers.specs.Exchanges.{Answers, asked, called}
use Rattle.contract_tool.proofs.answering.answer_request.Goals as goal

pub returns-clause-err : goal.returns-clause-err
returns-clause-err g c =
    let config = c.args.config.now in
    let call = called config.server c.args.asked.request c.args.store.now in
    let frames = c.with_frames-body.ensures ∙ ap never_failing c.new.ensures in (
      c.exchange-outcome.result,
      subst (λ (body : BodyState). Answers (λ e. goal.RouteHandler-dyn g (e.handler.vtable, e.handler.value))
          c.args.api.now.endpoints.items
          (asked call body config.frame_budget) c.exchange-outcome.result c.exchange-outcome.new.store)
          frames c.exchange-outcome.ensures.answers,
    )

pub returns-clause-ok : goal.returns-clause-ok
unfolding returns-clause-err
returns-clause-ok g c =
    IfOk-weaker c.reply_line.result _ _ (λ reply told.
    (c.exchange-outcome.result, told.0, (returns-clause-err g c).1, told.1, told.2)) c.reply_line.ensures
