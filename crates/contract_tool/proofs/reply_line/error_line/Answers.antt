use Rattle.std.proofs.Common.{Err, codes, refl, subst, sym}
use Rattle.std.proofs.lemmas.Result.{IfOk-weaker}
use Rattle.reply_lines.specs.ReplyLines.{outcome_alone}
use Rattle.contract_tool.specs.Outcomes.{Tells}
use Rattle.endpoint_answers.specs.declared.outcome.ExchangeError.{ExchangeError}
use Rattle.contract_tool.proofs.reply_line.error_line.Goals as goal

pub returns-in-BadRequestId : goal.returns-in-BadRequestId
returns-in-BadRequestId c =
    IfOk-weaker c.outcome_line.result _ _ (λ line is. (
      outcome_alone (codes "bad-request-id"),
      subst (λ (e : ExchangeError). Tells c.args.budget (Err e) (outcome_alone (codes "bad-request-id")))
          (sym c.in-BadRequestId.is) refl,
      is,
    )) c.outcome_line.ensures

pub returns-in-NoSuchOperation : goal.returns-in-NoSuchOperation
returns-in-NoSuchOperation c =
    IfOk-weaker c.outcome_line-in-NoSuchOperation.result _ _ (λ line is. (
      outcome_alone (codes "no-such-operation"),
      subst (λ (e : ExchangeError). Tells c.args.budget (Err e) (outcome_alone (codes "no-such-operation")))
          (sym c.in-NoSuchOperation.is) refl,
      is,
    )) c.outcome_line-in-NoSuchOperation.ensures

pub returns-in-WrongVariables : goal.returns-in-WrongVariables
returns-in-WrongVariables c =
    IfOk-weaker c.outcome_line-in-WrongVariables.result _ _ (λ line is. (
      outcome_alone (codes "wrong-variables"),
      subst (λ (e : ExchangeError). Tells c.args.budget (Err e) (outcome_alone (codes "wrong-variables")))
          (sym c.in-WrongVariables.is) refl,
      is,
    )) c.outcome_line-in-WrongVariables.ensures

pub returns-in-FrameBudget : goal.returns-in-FrameBudget
returns-in-FrameBudget c =
    IfOk-weaker c.outcome_line-in-FrameBudget.result _ _ (λ line is. (
      outcome_alone (codes "frame-budget"),
      subst (λ (e : ExchangeError). Tells c.args.budget (Err e) (outcome_alone (codes "frame-budget")))
          (sym c.in-FrameBudget.is) refl,
      is,
    )) c.outcome_line-in-FrameBudget.ensures

pub returns-in-BodyFault : goal.returns-in-BodyFault
returns-in-BodyFault c =
    IfOk-weaker c.response_line.result _ _ (λ line told. (
      told.0,
      subst (λ (e : ExchangeError). Tells c.args.budget (Err e) told.0) (sym c.in-BodyFault.is) told.1,
      told.2,
    )) c.response_line.ensures.line

pub returns-in-BodyTooLarge : goal.returns-in-BodyTooLarge
returns-in-BodyTooLarge c =
    IfOk-weaker c.response_line-in-BodyTooLarge.result _ _ (λ line told. (
      told.0,
      subst (λ (e : ExchangeError). Tells c.args.budget (Err e) told.0) (sym c.in-BodyTooLarge.is) told.1,
      told.2,
    )) c.response_line-in-BodyTooLarge.ensures.line
