use Rattle.std.proofs.Common.{Ok, subst, sym}
use Rattle.std.proofs.lemmas.Result.{IfOk-weaker}
use Rattle.endpoint_answers.specs.declared.outcome.Exchange.{Exchange}
use Rattle.contract_tool.specs.Outcomes.{Tells}
use Rattle.contract_tool.proofs.reply_line.exchange_line.Goals as goal

pub returns-in-Handled : goal.returns-in-Handled
returns-in-Handled c =
    IfOk-weaker c.response_line.result _ _ (λ line told. (
      told.0,
      subst (λ (e : Exchange). Tells c.args.budget (Ok e) told.0) (sym c.in-Handled.is) told.1,
      told.2,
    )) c.response_line.ensures.line

pub returns : goal.returns
returns c =
    IfOk-weaker c.response_line-in-Refused.result _ _ (λ line told. (
      told.0,
      subst (λ (e : Exchange). Tells c.args.budget (Ok e) told.0) (sym c.in-Refused.is) told.1,
      told.2,
    )) c.response_line-in-Refused.ensures.line
