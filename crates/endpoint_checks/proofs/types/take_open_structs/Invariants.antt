use Rattle.std.proofs.Common.{take}
use Rattle.std.specs.Prelude.{All}
use Rattle.endpoint_checks.specs.Types.{TakesOpenStruct}
use Rattle.endpoint_checks.proofs.types.take_open_structs.Given as goal

abbrev pub invariant-loop-slot : goal.invariant-loop-slot
invariant-loop-slot l = All (TakesOpenStruct l.table) (take l.slot-index l.slots)
