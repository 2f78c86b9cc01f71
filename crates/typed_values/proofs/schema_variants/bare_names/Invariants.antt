use Rattle.std.proofs.Common.{◌≡◌, ◌++◌, List, map, drop}
use Rattle.descriptors.specs.declared.table.Definition.{Definition}
use Rattle.typed_values.specs.SchemaTable.{bare_names}
use Rattle.typed_values.specs.Schemas.{sketch_of_variant}
use Rattle.typed_values.proofs.schema_variants.bare_names.Given as goal

abbrev pub invariant-loop-variant : goal.invariant-loop-variant
invariant-loop-variant l = (table : List Definition) →
    bare_names (map (sketch_of_variant table) l.variants) ≡ l.names ++ bare_names (map (sketch_of_variant table) (drop l.variant-index l.variants))
