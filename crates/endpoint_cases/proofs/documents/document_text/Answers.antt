use Rattle.endpoint_cases.proofs.documents.document_text.Goals as goal

pub text-text-requires : goal.text-text-requires
text-text-requires g c = record { ready = rw c.in_ok-definition.ensures.api c.requires }
