use Rattle.handler_cases.proofs.look_ups.found_among.Goals as goal

pub endpoint_at-requires : goal.endpoint_at-requires
endpoint_at-requires c = rw c.templates-places.ensures c.requires.templates
