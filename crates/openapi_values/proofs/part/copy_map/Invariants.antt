use Rattle.std.proofs.Common.{◌≡◌, take}
use Rattle.openapi_values.proofs.part.copy_map.Given as goal

abbrev pub invariant-loop-entry : goal.invariant-loop-entry
invariant-loop-entry g l = l.copies ≡ take l.entry-index l.entry-items
