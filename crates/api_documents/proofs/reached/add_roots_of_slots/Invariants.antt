use Rattle.std.proofs.Common.{◌≡◌, ◌++◌, take}
use Rattle.std.specs.List.{flat_map}
use Rattle.api_documents.specs.References.{roots_of_slot}
use Rattle.api_documents.proofs.reached.add_roots_of_slots.Given as goal

-- those of the slots so far
abbrev pub invariant-loop-slot : goal.invariant-loop-slot
invariant-loop-slot l =
    l.names ≡ l.initial.names ++ flat_map (roots_of_slot l.table) (take l.slot-index l.slots)
