use Rattle.std.proofs.Common.{take}
use Rattle.std.specs.Prelude.{All}
use Rattle.handler_shapes.specs.ShapeChecks.{SlotPasses}
use Rattle.endpoint_notation.proofs.reading.all_pass.Given as goal

-- the slots so far pass
abbrev pub invariant-loop-slot : goal.invariant-loop-slot
invariant-loop-slot l = All (SlotPasses l.table) (take l.slot-index l.slots)
