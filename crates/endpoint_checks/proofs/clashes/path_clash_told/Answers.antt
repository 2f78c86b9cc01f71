use Rattle.std.proofs.Common.{◌++◌, codes, ap, ◌∙◌, map}
use Rattle.api_declarations.specs.Values.{DeclarationValue}
use Rattle.endpoint_parameters.proofs.CallerLemmas.{first-map, none-map, none_not_first}
use Rattle.endpoint_checks.specs.Clashes.{ServesSame}
use Rattle.endpoint_checks.proofs.clashes.path_clash_told.Goals as goal

pub returns-in-Some-2 : goal.returns-in-Some-2
returns-in-Some-2 g c =
    let declared = g.E.Declared.declared in
    let e = c.args.endpoint.now in
    let other = c.in-Some-2.other.now in (
      declared other,
      first-map declared (ServesSame e) c.args.before.now other (rw c.in-Some-2.is at c.in_ok-other.ensures),
      c.in_ok-path_clash_message-in-Some-2.ensures
          ∙ ap (λ (other : DeclarationValue). codes "endpoint " ++ other.operation_id ++ codes " already serves " ++ e.method ++ codes " " ++ e.path)
          (c.other.view_is ∙ c.declaration-other.ensures),
    )

pub returns : goal.returns
returns g c =
    let declared = g.E.Declared.declared in
    let e = c.args.endpoint.now in
    let before = c.args.before.now in
    λ message told. none_not_first (ServesSame e) (map declared before) told.0 (none-map declared (ServesSame e) before (rw c.in-None.is at c.in_ok-other.ensures)) told.1
