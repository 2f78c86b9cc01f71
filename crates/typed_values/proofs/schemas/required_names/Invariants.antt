use Rattle.std.proofs.Common.{◌≡◌, ◌++◌, List, map, drop}
use Rattle.descriptors.specs.declared.table.Definition.{Definition}
use Rattle.typed_values.specs.Schemas.{required_names, sketch_of_field}
use Rattle.typed_values.proofs.schemas.required_names.Given as goal

abbrev pub invariant-loop-field : goal.invariant-loop-field
invariant-loop-field l = (table : List Definition) →
    l.fn.names.items ++ required_names (map (sketch_of_field table) l.fields) ≡ l.names.items ++ required_names (map (sketch_of_field table) (drop l.field-index l.fields))
