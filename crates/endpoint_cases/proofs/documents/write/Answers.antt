use Rattle.endpoint_cases.proofs.documents.write.Goals as goal

pub write-requires : goal.write-requires
write-requires g c = record { ready = rw c.in_ok-openapi.ensures.api c.requires }
