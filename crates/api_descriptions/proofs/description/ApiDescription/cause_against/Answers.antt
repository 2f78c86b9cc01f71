use Rattle.api_descriptions.proofs.description.ApiDescription.cause_against.Goals as goal

pub first_cause-requires : goal.first_cause-requires
first_cause-requires g c = rw c.deref.ensures.value c.requires

pub returns-clause-first : goal.returns-clause-first
returns-clause-first g c =
    rw (c.deref.ensures.value, c.declaration-declaration.ensures) at c.first_cause.ensures.first
