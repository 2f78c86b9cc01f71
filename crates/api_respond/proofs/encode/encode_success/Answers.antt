use Rattle.std.proofs.Common.{rules, subst, inr}
use Rattle.std.proofs.lemmas.Result.{IfOk-weaker}
use Rattle.handler_shapes.specs.declared.shape.HandlerShape.{HandlerShape}
use Rattle.api_respond.specs.Encodes.{WhyUnsent}
use Rattle.api_respond.proofs.encode.encode_success.Goals as goal

pub returns-in-Err-Refused-clause-encodes : goal.returns-in-Err-Refused-clause-encodes
returns-in-Err-Refused-clause-encodes g c =
    let told = rw c.in-Err-Refused.field-0-is at c.in-Err-Refused.ensures.refused in
    let cause = subst (λ (shape : HandlerShape). WhyUnsent shape.table shape.response c.args.success.now c.in-Err-Refused.message) c.shape-shape.ensures.0 told in
    IfOk-weaker c.encode_unsent.result _ _ (λ response refused. inr (record { message = c.in-Err-Refused.message; cause = cause; refusal = refused; left = search rules })) (rw c.in-Err-Refused.field-0-is at c.encode_unsent.ensures)
