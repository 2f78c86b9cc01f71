use Rattle.std.proofs.Common.{◌≡◌, suc, Some, None, ap, arith, sym, ◌∙◌}
use Rattle.std.specs.Option.{option_copied}
use Rattle.descriptors.specs.declared.desc.Desc.{out-Desc}
use Rattle.descriptors.specs.declared.desc.Desc.TheVariants as desc
use Rattle.flat_maps.specs.Flat.{resolved_at}
use Rattle.endpoint_parameters.proofs.Resolving.{ends_there, leads_on, no_reference, no_step}
use Rattle.endpoint_parameters.proofs.resolved.+resolved_within.Goals as goal

pub returns-in_err-definition-in-Ref : goal.returns-in_err-definition-in-Ref
returns-in_err-definition-in-Ref t c =
    let is = ap out-Desc c.in-Ref.is ∙ desc.outs-Ref c.in-Ref.name in
    ap option_copied c.from_residual.ensures ∙ sym (leads_on c.args.table.now c.args.steps c.args.desc.now c.in-Ref.name None is (sym c.in_err-definition-in-Ref.ensures))

pub returns-in_err-checked_sub-in-Ref : goal.returns-in_err-checked_sub-in-Ref
returns-in_err-checked_sub-in-Ref t c =
    let is = ap out-Desc c.in-Ref.is ∙ desc.outs-Ref c.in-Ref.name in
    let definition = c.in_ok-definition-in-Ref.definition.now in
    let none_left : c.args.steps ≡ 0 = omega (arith, c.in_err-checked_sub-in-Ref.ensures) in
    ap option_copied c.from_residual-in_err-checked_sub-in-Ref.ensures
    ∙ sym (leads_on c.args.table.now c.args.steps c.args.desc.now c.in-Ref.name (Some definition) is (sym c.in_ok-definition-in-Ref.ensures)
    ∙ ap (λ n. resolved_at c.args.table.now n definition) none_left ∙ no_step c.args.table.now definition)

pub returns-in_ok-checked_sub-in-Ref : goal.returns-in_ok-checked_sub-in-Ref
returns-in_ok-checked_sub-in-Ref t c =
    let is = ap out-Desc c.in-Ref.is ∙ desc.outs-Ref c.in-Ref.name in
    let definition = c.in_ok-definition-in-Ref.definition.now in
    let one_more : suc c.in_ok-checked_sub-in-Ref.field-0 ≡ c.args.steps = omega (arith, c.in_ok-checked_sub-in-Ref.ensures) in
    c.resolved_within.ensures ∙ ap (λ n. resolved_at c.args.table.now n definition) one_more
    ∙ sym (leads_on c.args.table.now c.args.steps c.args.desc.now c.in-Ref.name (Some definition) is (sym c.in_ok-definition-in-Ref.ensures))

pub returns-in_default : goal.returns-in_default
returns-in_default t c = sym (ends_there c.args.table.now c.args.steps c.args.desc.now (no_reference c.args.desc.now c.in_default.not-Ref))
