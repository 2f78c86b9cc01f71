use Rattle.endpoint_checks.proofs.definition_clashes.first_differing.Goals as goal

pub returns : goal.returns
returns c = rw c.definitions.ensures.items at c.first_of.ensures.first
