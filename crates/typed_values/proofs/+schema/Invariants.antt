use Rattle.std.proofs.Common.{◌≡◌, ◌++◌, map, take, drop}
use Rattle.typed_values.specs.Schemas.{object_of, schema_parts, property_of, sketch_of_field, sketch_of_variant, sketch_of_tagged, external_choices, payload_choices, tagged_choice}
use Rattle.typed_values.proofs.+schema.Given as goal

abbrev pub invariant-schema_variants::external_parts-loop-variant : goal.invariant-schema_variants::external_parts-loop-variant
invariant-schema_variants::external_parts-loop-variant l =
    external_choices (map (sketch_of_variant l.table) l.variants) ≡ l.choices ++ payload_choices (map (sketch_of_variant l.table) (drop l.variant-index l.variants))

abbrev pub invariant-schema_variants::tagged_parts-loop-variant : goal.invariant-schema_variants::tagged_parts-loop-variant
invariant-schema_variants::tagged_parts-loop-variant l =
    l.choices ≡ map (tagged_choice l.table l.tag) (map (sketch_of_tagged l.table) (take l.variant-index l.variants))

abbrev pub invariant-schemas::properties_of-loop-field : goal.invariant-schemas::properties_of-loop-field
invariant-schemas::properties_of-loop-field l =
    l.properties.items ≡ l.fn.properties.items ++ map (property_of l.table) (map (sketch_of_field l.table) (take l.field-index l.fields))

abbrev pub invariant-schemas::schemas_of-loop-desc : goal.invariant-schemas::schemas_of-loop-desc
invariant-schemas::schemas_of-loop-desc l = l.schemas ≡ map (λ d. object_of (schema_parts l.table d)) (take l.desc-index l.descs)
