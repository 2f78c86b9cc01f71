use Rattle.std.proofs.Common.{chars}
use Rattle.request_admission.proofs.Found.{found}
use Rattle.request_admission.proofs.SoundOperations.{operation_sound}
use Rattle.request_admission.proofs.check.check_admits.Goals as goal

pub operation_holds-requires-clause-operation : goal.operation_holds-requires-clause-operation
operation_holds-requires-clause-operation c =
    operation_sound c.args.doc.now (chars c.args.path.now) (chars c.args.method.now) c.in-Some.operation.now c.requires.doc (found _ _ _ c.in-Some.is c.operation_named.ensures)
