use Rattle.std.proofs.Common.{subst}
use Rattle.std.specs.Prelude.{◌↔◌, IsTrue}
use Rattle.api_declarations.specs.Values.{DeclarationValue}
use Rattle.endpoint_checks.specs.Clashes.{IsDefinedOtherwise}
use Rattle.endpoint_checks.proofs.definition_clashes.DefinesCondition.holds.Goals as goal

pub returns-clause-holds : goal.returns-clause-holds
returns-clause-holds g c =
    subst (λ (other : DeclarationValue). IsTrue c.is_defined_otherwise.result ↔ IsDefinedOtherwise c.args.self.now.endpoint.now c.args.self.now.definition.now other) c.declaration.ensures
    c.is_defined_otherwise.ensures
