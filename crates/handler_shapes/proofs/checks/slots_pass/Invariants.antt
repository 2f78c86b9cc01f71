use Rattle.std.proofs.Common.{take}
use Rattle.std.specs.Prelude.{All}
use Rattle.handler_shapes.specs.ShapeChecks.{SlotPasses}
use Rattle.handler_shapes.specs.ShapeLengths.{SlotHasShortLengths}
use Rattle.handler_shapes.proofs.checks.slots_pass.Given as goal

-- the slots so far pass, and their lengths are short
abbrev pub invariant-loop-slot : goal.invariant-loop-slot
invariant-loop-slot l = record {
  pass : All (SlotPasses l.table) (take l.slot-index l.slots);
  lengths : All SlotHasShortLengths (take l.slot-index l.slots);
}
