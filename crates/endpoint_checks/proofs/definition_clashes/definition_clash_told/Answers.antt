use Rattle.std.proofs.Common.{◌++◌, codes, ap, ◌∙◌}
use Rattle.api_declarations.specs.Values.{DeclarationValue}
use Rattle.endpoint_parameters.specs.Told.{quoted}
use Rattle.endpoint_checks.proofs.DefinitionClashes.{clash_told, none_told, some_differs}
use Rattle.endpoint_checks.proofs.definition_clashes.definition_clash_told.Goals as goal

pub returns-in_default : goal.returns-in_default
returns-in_default g c = λ message told. none_told g.E.Declared.declared c.args.endpoint.now c.args.before.now c.in_default.ensures told.0 told.1

pub unreachable-requires : goal.unreachable-requires
unreachable-requires g c =
    let here = ap (λ (d : DeclarationValue). d.shape.table) c.endpoint.view_is in
    let there = ap (λ (d : DeclarationValue). d.shape.table) (c.other.view_is ∙ c.declaration-other.ensures) in
    some_differs g.E.Declared.declared c.args.endpoint.now c.args.before.now c.in-Some.other.now c.in-Some.ensures (rw (here, there) at c.in_default-first_differing.ensures)

pub returns : goal.returns
returns g c =
    let d = c.in-Some-first_differing.definition.now in
    let is = c.other.view_is ∙ c.declaration-other.ensures in
    let here = ap (λ (d : DeclarationValue). d.shape.table) c.endpoint.view_is in
    let there = ap (λ (d : DeclarationValue). d.shape.table) is in
    clash_told g.E.Declared.declared c.args.endpoint.now c.args.before.now c.in-Some.other.now c.in-Some.ensures d (rw (here, there) at c.in-Some-first_differing.ensures)
    c.in_ok-definition_clash_message.field-0
    (c.in_ok-definition_clash_message.ensures ∙ ap (λ (other : DeclarationValue). quoted (codes "definition ") (codes " differs from that of endpoint " ++ other.operation_id) d.name) is)
