use Rattle.std.proofs.Common.{◌≡◌, ◌++◌, map, filter, drop}
use Rattle.endpoint_parameters.specs.ParameterCodes.{is_in}
use Rattle.endpoint_parameters.specs.Parameters.{name_of}
use Rattle.endpoint_parameters.proofs.parameter.names_in.Given as goal

abbrev pub invariant-loop-parameter : goal.invariant-loop-parameter
invariant-loop-parameter l =
    map name_of (filter (is_in l.place) l.parameters) ≡ l.names ++ map name_of (filter (is_in l.place) (drop l.parameter-index l.parameters))
