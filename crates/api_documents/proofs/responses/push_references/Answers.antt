use Rattle.std.proofs.Common.{append_assoc}
use Rattle.api_documents.proofs.responses.push_references.Goals as goal

pub returns : goal.returns
returns c =
    rw (
      c.in_ok-push.ensures.ok,
      append_assoc,
      c.in_ok-from_ascii.ensures,
      c.in_ok-reference_to.ensures,
      c.in_ok-from_ascii-2.ensures,
      c.in_ok-reference_to-2.ensures,
    )
    at c.push-2.ensures.ok
