use Rattle.std.proofs.Common.{◌≡◌, take}
use Rattle.endpoint_metadata.specs.Parameters.{listed_parameters}
use Rattle.endpoint_metadata.specs.Values.{parameter_values}
use Rattle.endpoint_metadata.proofs.parameters.listed_parameters.Given as goal

-- the parameters of the slots so far
abbrev pub invariant-loop-slot : goal.invariant-loop-slot
invariant-loop-slot l =
    parameter_values l.told ≡ listed_parameters l.content_type l.table (take l.slot-index l.slots)
