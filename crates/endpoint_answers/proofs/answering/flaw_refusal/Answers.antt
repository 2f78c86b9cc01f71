use Rattle.endpoint_answers.proofs.answering.flaw_refusal.Goals as goal

pub returns : goal.returns
returns g c = rw c.in_ok-http_error.ensures at c.refusal.ensures
