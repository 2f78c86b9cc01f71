use Rattle.std.proofs.Common.{◌≡◌, ◌++◌, drop}
use Rattle.std.specs.List.{flat_map}
use Rattle.endpoint_parameters.specs.Parameters.{parameters, parameters_of_slot}
use Rattle.endpoint_parameters.proofs.parameter.parameters.Given as goal

abbrev pub invariant-loop-slot : goal.invariant-loop-slot
invariant-loop-slot l = parameters l.shape ≡ l.found ++ flat_map (parameters_of_slot l.shape.table) (drop l.slot-index l.shape.slots)
