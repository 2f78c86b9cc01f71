use Rattle.std.proofs.Common.{◌≡◌, take}
use Rattle.endpoint_metadata.specs.Shown.{documented_parameters}
use Rattle.api_documents.proofs.parameters.parameters.Given as goal

-- the parameters of the slots so far
abbrev pub invariant-loop-slot : goal.invariant-loop-slot
invariant-loop-slot l =
    l.parameters ≡ documented_parameters l.table (take l.slot-index l.slots)
