use Rattle.std.proofs.Common.{◌≡◌, take}
use Rattle.openapi_values.proofs.part.copy_list.Given as goal

abbrev pub invariant-loop-part : goal.invariant-loop-part
invariant-loop-part g l = l.copies ≡ take l.part-index l.part-items
