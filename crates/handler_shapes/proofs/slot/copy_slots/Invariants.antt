use Rattle.std.proofs.Common.{◌≡◌, take}
use Rattle.handler_shapes.proofs.slot.copy_slots.Given as goal

-- the slots so far are copied
abbrev pub invariant-loop-slot : goal.invariant-loop-slot
invariant-loop-slot l = l.copies ≡ take l.slot-index l.slots
