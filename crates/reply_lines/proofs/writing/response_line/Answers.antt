use Rattle.std.proofs.Common.{Err, ap, codes, refl}
use Rattle.std.proofs.lemmas.Result.{IfOk-weaker}
use Rattle.reply_lines.specs.ReplyLines.{fault, many_frames, outcome_alone}
use Rattle.reply_lines.proofs.writing.response_line.Goals as goal

pub returns-in-Err-BodyFault-clause-line : goal.returns-in-Err-BodyFault-clause-line
returns-in-Err-BodyFault-clause-line c =
    let fails = c.in-Err-BodyFault.ensures.fault (ap Err c.in-Err-BodyFault.field-0-is) in
    IfOk-weaker c.outcome_line.result _ _
    (λ line is. (outcome_alone (codes "reply-fault"), fault fails refl, is)) c.outcome_line.ensures

pub returns-in-Err-FrameBudget-clause-line : goal.returns-in-Err-FrameBudget-clause-line
returns-in-Err-FrameBudget-clause-line c =
    let over = c.in-Err-FrameBudget.ensures.over (ap Err c.in-Err-FrameBudget.field-0-is) in
    IfOk-weaker c.outcome_line-in-Err-FrameBudget.result _ _
    (λ line is. (outcome_alone (codes "reply-budget"), many_frames over refl, is))
    c.outcome_line-in-Err-FrameBudget.ensures
