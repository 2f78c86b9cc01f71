use Rattle.std.proofs.Common.{append_assoc}
use Rattle.endpoint_checks.proofs.definition_clashes.definition_clash_message.Goals as goal

pub returns : goal.returns
returns c = rw (c.in_ok-push_text-2.ensures.ok, c.in_ok-push_ascii.ensures.ok, c.in_ok-push_text.ensures.ok, c.in_ok-message.ensures) (simp append_assoc)
