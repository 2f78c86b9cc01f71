use Rattle.std.proofs.Common.{◌≡◌, ◌++◌, map, take}
use Rattle.endpoint_metadata.specs.Parameters.{field_parameter}
use Rattle.endpoint_metadata.specs.Values.{parameter_values}
use Rattle.endpoint_metadata.proofs.parameters.add_struct.Given as goal

-- those of before, and the fields so far
abbrev pub invariant-loop-field : goal.invariant-loop-field
invariant-loop-field l =
    parameter_values l.told
    ≡ parameter_values l.initial.told ++ map (field_parameter l.location l.table)
    (map (λ f. f.now) (take l.field-index l.field-items))
