use Rattle.endpoint_cases.proofs.information.json_of_copy.Goals as goal

pub json-requires : goal.json-requires
json-requires g c = record { ready = rw c.in_ok-copy.ensures.api c.requires }
