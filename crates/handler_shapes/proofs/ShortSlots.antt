-- Of few slots the body comes last.
use Rattle.std.proofs.Common.{◌<◌, List, [], ◌∷◌, length, arith}
use Rattle.handler_shapes.specs.declared.slot.Slot.{Slot}
use Rattle.handler_shapes.specs.BodySlots.{BodyComesLast}

-- of less than two
pub short-last : (slots : List Slot) → length slots < 2 → BodyComesLast slots
short-last [] few = tt
short-last (slot ∷ []) few = tt
short-last (slot ∷ next ∷ slots) few = absurd (omega arith)
