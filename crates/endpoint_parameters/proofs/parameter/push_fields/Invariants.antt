use Rattle.std.proofs.Common.{◌≡◌, ◌++◌, map, drop}
use Rattle.endpoint_parameters.specs.ParameterCodes.{parameter_at}
use Rattle.endpoint_parameters.proofs.parameter.push_fields.Given as goal

abbrev pub invariant-loop-field : goal.invariant-loop-field
invariant-loop-field l = l.fn.found ++ map (parameter_at l.place) l.fields ≡ l.found ++ map (parameter_at l.place) (drop l.field-index l.fields)
