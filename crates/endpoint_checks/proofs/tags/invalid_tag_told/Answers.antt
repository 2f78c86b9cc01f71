use Rattle.std.proofs.Common.{ap, subst, ◌∙◌}
use Rattle.endpoint_parameters.specs.Firsts.{NoneOf}
use Rattle.endpoint_parameters.proofs.CallerLemmas.{none_not_first}
use Rattle.endpoint_checks.specs.Tags.{IsUnknownTag}
use Rattle.endpoint_checks.proofs.tags.invalid_tag_told.Goals as goal

pub returns-in_default : goal.returns-in_default
returns-in_default c message told =
    let unknown = IsUnknownTag c.args.config.now in
    let none = subst (NoneOf unknown) (c.as_slice.ensures ∙ ap (λ e. e.tags) c.endpoint.view_is) c.in_default.ensures.first in
    none_not_first unknown c.args.endpoint.now.tags told.0 none told.1.first
