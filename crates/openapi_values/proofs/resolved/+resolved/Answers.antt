use Rattle.std.proofs.Common.{◌≡◌, ◌∙◌, suc, sym, ap, arith}
use Rattle.openapi_values.specs.Steps.{left}
use Rattle.openapi_values.proofs.ResolvedSteps.{resolved-zero, resolved-suc}
use Rattle.openapi_values.proofs.StepsLeft.{left_end, items_passed, members_passed}
use Rattle.openapi_values.proofs.resolved.+resolved.Goals as goal

pub within-returns-in-End : goal.within-returns-in-End
within-returns-in-End t c =
    let none : left c.args.steps.now ≡ 0 = ap left c.in-End.is ∙ left_end in
    rw none (sym (resolved-zero c.args.doc.now c.args.schema.now))

pub within-step-requires : goal.within-step-requires
within-step-requires t c =
    let less : suc (left c.inside.result) ≡ left c.args.steps.now = items_passed c.args.steps.now c.in-Items.first c.in-Items.later c.in-Items.after _ _ c.in-Items.is c.of_items-after.ensures c.inside.ensures in
    omega (arith, c.decreases, less)

pub within-returns-in-Items : goal.within-returns-in-Items
within-returns-in-Items t c =
    let less : suc (left c.inside.result) ≡ left c.args.steps.now = items_passed c.args.steps.now c.in-Items.first c.in-Items.later c.in-Items.after _ _ c.in-Items.is c.of_items-after.ensures c.inside.ensures in
    c.step.ensures ∙ resolved-suc c.args.doc.now _ _ c.args.schema.now less

pub within-step-requires-in-Members : goal.within-step-requires-in-Members
within-step-requires-in-Members t c =
    let less : suc (left c.inside-in-Members.result) ≡ left c.args.steps.now = members_passed c.args.steps.now c.in-Members.first c.in-Members.later c.in-Members.after _ _ c.in-Members.is c.of_members-after.ensures c.inside-in-Members.ensures in
    omega (arith, c.decreases, less)

pub within-returns-in-Members : goal.within-returns-in-Members
within-returns-in-Members t c =
    let less : suc (left c.inside-in-Members.result) ≡ left c.args.steps.now = members_passed c.args.steps.now c.in-Members.first c.in-Members.later c.in-Members.after _ _ c.in-Members.is c.of_members-after.ensures c.inside-in-Members.ensures in
    c.step-in-Members.ensures ∙ resolved-suc c.args.doc.now _ _ c.args.schema.now less
