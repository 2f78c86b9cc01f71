use Rattle.typed_extractors.proofs.Refusing.{handed_on}
use Rattle.typed_extractors.proofs.tuples.slots_with.Goals as goal

pub returns-in_err-slots-clause-refused : goal.returns-in_err-slots-clause-refused
returns-in_err-slots-clause-refused g c =
    handed_on c.from_residual-in_err-slots.result c.in_err-slots.field-0.0 _ c.from_residual-in_err-slots.ensures.1
    (rw c.in_ok-all.ensures at c.in_err-slots.ensures.refused)
