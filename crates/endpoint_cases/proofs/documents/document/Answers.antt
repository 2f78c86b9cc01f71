use Rattle.endpoint_cases.proofs.documents.document.Goals as goal

pub json-json-requires : goal.json-json-requires
json-json-requires g c = record { ready = rw c.in_ok-definition.ensures.api c.requires }
