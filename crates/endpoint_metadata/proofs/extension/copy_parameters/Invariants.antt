use Rattle.std.proofs.Common.{◌≡◌, take}
use Rattle.endpoint_metadata.specs.Values.{parameter_values}
use Rattle.endpoint_metadata.proofs.extension.copy_parameters.Given as goal

-- the parameters so far are copied
abbrev pub invariant-loop-parameter : goal.invariant-loop-parameter
invariant-loop-parameter l =
    parameter_values l.copies ≡ parameter_values (take l.parameter-index l.parameters)
