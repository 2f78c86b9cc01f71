use Rattle.std.proofs.Common.{map, filter, drop}
use Rattle.std.specs.Prelude.{◌↔◌, Contains}
use Rattle.endpoint_parameters.specs.ParameterCodes.{is_in}
use Rattle.endpoint_parameters.specs.Parameters.{name_of}
use Rattle.endpoint_parameters.proofs.parameter_causes.is_named.Given as goal

-- the name is one of those that are left, where it is one
abbrev pub invariant-loop-parameter : goal.invariant-loop-parameter
invariant-loop-parameter l =
    Contains (map name_of (filter (is_in l.place) l.parameters)) l.name
    ↔ Contains (map name_of (filter (is_in l.place) (drop l.parameter-index l.parameters))) l.name
