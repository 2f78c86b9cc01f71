use Rattle.api_respond.specs.Encodes.{WhyUnsent, no_map, no_line}
use Rattle.api_respond.proofs.Inserted.{told_more, told_out}
use Rattle.api_respond.proofs.encode.success_lines.Goals as goal

pub returns-in-Err-Refused-clause-refused : goal.returns-in-Err-Refused-clause-refused
returns-in-Err-Refused-clause-refused c =
    told_more _ (WhyUnsent c.args.table.now c.args.response.now c.args.success.now) (λ message is. no_map c.in-Err-Refused.text (rw c.in-Err-Refused.field-0-is at c.in-Err-Refused.ensures) is) c.told.result c.told.ensures

pub returns-in_err-lines-clause-refused : goal.returns-in_err-lines-clause-refused
returns-in_err-lines-clause-refused c =
    told_out c.from_residual-in_err-lines.result c.in_err-lines.field-0.0 _ (WhyUnsent c.args.table.now c.args.response.now c.args.success.now) c.from_residual-in_err-lines.ensures.1
    (λ message first. no_line _ c.in-Ok.ensures first) c.in_err-lines.ensures.refused
