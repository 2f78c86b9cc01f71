use Rattle.std.proofs.Common.{ap, sym, ◌∙◌}
use Rattle.descriptors.specs.Definitions.{entry_of}
use Rattle.endpoint_checks.proofs.DefinitionClashes.{differs_from}
use Rattle.endpoint_checks.proofs.definition_clashes.differs_in.Goals as goal

pub returns-in-Some : goal.returns-in-Some
returns-in-Some c =
    differs_from c.args.table.now c.args.definition.now c.in-Some.other.now c.equals.result (ap (entry_of c.args.table.now) c.as_str.ensures ∙ sym c.in-Some.ensures) c.equals.ensures
