use Rattle.std.proofs.Common.{take}
use Rattle.std.specs.Prelude.{All}
use Rattle.endpoint_metadata.specs.WellTyped.{IsWellTyped}
use Rattle.endpoint_metadata.proofs.well_typed.each_is_well_typed.Given as goal

-- the slots so far are of such types
abbrev pub invariant-loop-slot : goal.invariant-loop-slot
invariant-loop-slot l = All (IsWellTyped l.table) (take l.slot-index l.slots)
