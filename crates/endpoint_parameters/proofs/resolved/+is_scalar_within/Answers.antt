use Rattle.std.proofs.Common.{◌≡◌, suc, ap, arith, subst, sym, ◌∙◌}
use Rattle.descriptors.specs.declared.desc.Desc.{out-Desc}
use Rattle.descriptors.specs.declared.desc.Desc.TheVariants as desc
use Rattle.endpoint_parameters.specs.Steps.{IsScalarWithin}
use Rattle.endpoint_parameters.proofs.Resolving.{no_reference, not_defined, not_in_no_steps, scalar_by_form, scalar_by_name}
use Rattle.endpoint_parameters.proofs.resolved.+is_scalar_within.Goals as goal

pub returns-in-Some-checked_sub : goal.returns-in-Some-checked_sub
returns-in-Some-checked_sub t c =
    let table = c.args.table.now in
    let d = c.args.desc.now in
    let is = ap out-Desc c.in-Ref.is ∙ desc.outs-Ref c.in-Ref.name in
    let one_more : suc c.in-Some-checked_sub.left ≡ c.args.steps = omega (arith, c.in-Some-checked_sub.ensures) in
    let both = scalar_by_name table d c.behind_options.result.now c.behind_options.ensures c.in-Ref.name is c.in-Some-checked_sub.left c.in-Some.definition.now (sym c.in-Some.ensures) in
    let told = c.is_scalar_within.ensures in (
      λ h. subst (λ n. IsScalarWithin table n d) one_more (both.0 (told.0 h)),
      λ leads. told.1 (both.1 (subst (λ n. IsScalarWithin table n d) (sym one_more) leads)),
    )

pub returns-in-None-checked_sub : goal.returns-in-None-checked_sub
returns-in-None-checked_sub t c =
    let table = c.args.table.now in
    let d = c.args.desc.now in
    let is = ap out-Desc c.in-Ref.is ∙ desc.outs-Ref c.in-Ref.name in
    let none_left : c.args.steps ≡ 0 = omega (arith, c.in-None-checked_sub.ensures) in (
      λ h. absurd (cc h),
      λ leads.
          absurd (not_in_no_steps table d c.behind_options.result.now c.behind_options.ensures c.in-Ref.name is (subst (λ n. IsScalarWithin table n d) none_left leads)),
    )

pub returns-in-None : goal.returns-in-None
returns-in-None t c =
    let is = ap out-Desc c.in-Ref.is ∙ desc.outs-Ref c.in-Ref.name in (
      λ h. absurd (cc h),
      λ leads.
          absurd (not_defined c.args.table.now c.args.desc.now c.behind_options.result.now c.behind_options.ensures c.in-Ref.name is c.args.steps (sym c.in-None.ensures) leads),
    )

pub returns-in_default : goal.returns-in_default
returns-in_default t c =
    let y = c.behind_options.result.now in
    let both = scalar_by_form c.args.table.now c.args.desc.now y c.behind_options.ensures c.args.steps (no_reference y c.in_default.not-Ref) in
    (λ h. both.0 (sym c.is_scalar_form.ensures ∙ h), λ leads. c.is_scalar_form.ensures ∙ both.1 leads)
