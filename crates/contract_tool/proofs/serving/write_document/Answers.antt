use Rattle.std.proofs.Common.{Err, ap}
use Rattle.contract_tool.proofs.serving.write_document.Goals as goal

pub returns-in-Ok-clause-ends : goal.returns-in-Ok-clause-ends
returns-in-Ok-clause-ends g c = (c.in-Ok.ensures.ok, c.in-Ok.ensures.calls)

pub returns-in-Err-WriteFault-clause-ends : goal.returns-in-Err-WriteFault-clause-ends
returns-in-Err-WriteFault-clause-ends g c = (
  c.in-Err-WriteFault.ensures.failed (ap Err c.in-Err-WriteFault.field-0-is),
  c.in-Err-WriteFault.ensures.part,
  rw c.in-Err-WriteFault.field-0-is at c.in-Err-WriteFault.ensures.calls,
)

pub returns-in-Err-OutOfMemory-clause-ends : goal.returns-in-Err-OutOfMemory-clause-ends
returns-in-Err-OutOfMemory-clause-ends g c = (
  c.in-Err-OutOfMemory.ensures.part,
  rw c.in-Err-OutOfMemory.field-0-is at c.in-Err-OutOfMemory.ensures.calls,
)
