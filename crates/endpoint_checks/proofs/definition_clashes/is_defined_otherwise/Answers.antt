use Rattle.std.proofs.Common.{List, ap, subst}
use Rattle.std.specs.Prelude.{◌↔◌, IsTrue}
use Rattle.descriptors.specs.declared.table.Definition.{Definition}
use Rattle.api_declarations.specs.Values.{DeclarationValue}
use Rattle.endpoint_checks.specs.Clashes.{DiffersIn}
use Rattle.endpoint_checks.proofs.definition_clashes.is_defined_otherwise.Goals as goal

pub returns-then-is_shown_beside : goal.returns-then-is_shown_beside
returns-then-is_shown_beside c =
    let differs =
    subst (λ (ds : List Definition). IsTrue c.differs_in.result ↔ DiffersIn ds c.args.definition.now) (ap (λ (d : DeclarationValue). d.shape.table) c.other.view_is) c.differs_in.ensures in
    (λ h. record { shown = c.is_shown_beside.ensures.0 c.if-is_shown_beside.true; differs = differs.0 h }, λ otherwise. differs.1 otherwise.differs)
