use Rattle.std.proofs.Common.{◌≡◌, ◌++◌, map, take}
use Rattle.endpoint_metadata.specs.Parameters.{page_parameter}
use Rattle.endpoint_metadata.specs.Values.{parameter_values}
use Rattle.endpoint_metadata.proofs.parameters.add_page_fields.Given as goal

-- those of before, and the fields so far
abbrev pub invariant-loop-field : goal.invariant-loop-field
invariant-loop-field l =
    parameter_values l.told
    ≡ parameter_values l.initial.told ++ map (λ f. page_parameter l.table f.now) (take l.field-index l.fields)
