use Rattle.std.proofs.Common.{◌≡◌, ◌+◌, ◌*◌, [], drop, map, option_map, unwrap_or}
use denote.Param.Weighed.{most}
use Rattle.schema_values.specs.declared.schema.ArrayParts.{size-ArrayParts}
use Rattle.schema_values.specs.declared.schema.Items.{size-Items}
use Rattle.schema_values.specs.declared.schema.ObjectParts.{size-ObjectParts}
use Rattle.schema_values.specs.declared.schema.Property.{size-Property}
use Rattle.schema_values.specs.declared.schema.Schema.{size-Schema}
use Rattle.schema_values.specs.declared.schema.SchemaObject.{size-SchemaObject}
use Rattle.schema_values.specs.declared.schema.Subschemas.{size-Subschemas}
use Rattle.openapi_values.specs.Refusal.{first_of, refusal_of, property_refusal}
use Rattle.openapi_values.proofs.refusal.+refusal.Given as goal

abbrev pub decreases-refusal : goal.decreases-refusal
decreases-refusal l = 8 * size-Schema l.schema.now

abbrev pub decreases-object_refusal : goal.decreases-object_refusal
decreases-object_refusal l = 8 * size-SchemaObject l.schema.now + 3

abbrev pub decreases-inner_refusal : goal.decreases-inner_refusal
decreases-inner_refusal l = 8 * size-SchemaObject l.schema.now + 2

abbrev pub decreases-type_refusal : goal.decreases-type_refusal
decreases-type_refusal l = 8 * size-SchemaObject l.schema.now + 1

abbrev pub decreases-array_refusal : goal.decreases-array_refusal
decreases-array_refusal l = 8 * size-ArrayParts l.array.now + 1

abbrev pub decreases-items_refusal : goal.decreases-items_refusal
decreases-items_refusal l = 8 * size-Items l.items.now + 1

abbrev pub decreases-object_parts_refusal : goal.decreases-object_parts_refusal
decreases-object_parts_refusal l = 8 * size-ObjectParts l.object.now + 4

abbrev pub decreases-schema_refusal : goal.decreases-schema_refusal
decreases-schema_refusal l = 8 * unwrap_or (option_map size-Schema l.schema.now) 0 + 1

abbrev pub decreases-properties_refusal : goal.decreases-properties_refusal
decreases-properties_refusal l = 8 * most size-Property l.properties.now + 2

abbrev pub decreases-property_refusal : goal.decreases-property_refusal
decreases-property_refusal l = 8 * size-Property l.property.now + 1

abbrev pub decreases-subschemas_refusal : goal.decreases-subschemas_refusal
decreases-subschemas_refusal l = 8 * size-Subschemas l.subschemas.now + 3

abbrev pub decreases-schemas_refusal : goal.decreases-schemas_refusal
decreases-schemas_refusal l = 8 * most size-Schema (unwrap_or l.schemas.now []) + 2

abbrev pub decreases-list_refusal : goal.decreases-list_refusal
decreases-list_refusal l = 8 * most size-Schema l.schemas.now + 1

abbrev pub invariant-list_refusal-loop-schema : goal.invariant-list_refusal-loop-schema
invariant-list_refusal-loop-schema l = first_of (map refusal_of (drop l.schema-index l.schemas)) ≡ first_of (map refusal_of l.fn.schemas)

abbrev pub invariant-properties_refusal-loop-property : goal.invariant-properties_refusal-loop-property
invariant-properties_refusal-loop-property l = first_of (map property_refusal (drop l.property-index l.properties)) ≡ first_of (map property_refusal l.fn.properties)
