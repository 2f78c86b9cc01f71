use Rattle.std.proofs.Common.{ap, subst, sym, ◌∙◌}
use Rattle.descriptors.specs.declared.desc.Desc.{out-Desc}
use Rattle.descriptors.specs.declared.desc.Desc.TheVariants as desc
use Rattle.descriptors.specs.declared.desc.Desc.TheViews.{roll-Desc, roll-out-Desc}
use Rattle.endpoint_parameters.specs.Steps.{IsBehindOptions, behind, itself}
use Rattle.endpoint_parameters.proofs.resolved.+behind_options.Goals as goal

pub returns-in-Option : goal.returns-in-Option
returns-in-Option t c =
    let inner = c.in-Option.inner in
    let found = c.behind_options.result.now in
    behind inner found (ap out-Desc c.in-Option.is ∙ desc.outs-Option inner) (subst (λ d. IsBehindOptions d found) c.get.ensures c.behind_options.ensures)

pub returns-in_default : goal.returns-in_default
returns-in_default t c =
    let d = c.args.desc.now in
    itself (λ x is. c.in_default.not-Option x (sym (roll-out-Desc d) ∙ ap roll-Desc is ∙ desc.rolls-Option x))
