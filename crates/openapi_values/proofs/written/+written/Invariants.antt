use Rattle.std.proofs.Common.{◌≡◌, ◌+◌, ◌*◌, [], take, map, option_map, unwrap_or}
use denote.Param.Weighed.{most}
use Rattle.schema_values.specs.declared.schema.ArrayParts.{size-ArrayParts}
use Rattle.schema_values.specs.declared.schema.Items.{size-Items}
use Rattle.schema_values.specs.declared.schema.ObjectParts.{size-ObjectParts}
use Rattle.schema_values.specs.declared.schema.Property.{size-Property}
use Rattle.schema_values.specs.declared.schema.Schema.{size-Schema}
use Rattle.schema_values.specs.declared.schema.SchemaObject.{size-SchemaObject}
use Rattle.schema_values.specs.declared.schema.Subschemas.{size-Subschemas}
use Rattle.openapi_values.specs.Objects.{pair_member}
use Rattle.openapi_values.specs.SchemaJson.{untitled, schema_written, property_written}
use Rattle.openapi_values.proofs.written.+written.Given as goal

abbrev pub decreases-written : goal.decreases-written
decreases-written l = 8 * size-Schema l.schema.now

abbrev pub decreases-object_json : goal.decreases-object_json
decreases-object_json l = 8 * size-SchemaObject l.schema.now + 4

abbrev pub decreases-add_behind : goal.decreases-add_behind
decreases-add_behind l = 8 * size-SchemaObject l.schema.now + 3

abbrev pub decreases-add_type : goal.decreases-add_type
decreases-add_type l = 8 * size-SchemaObject l.schema.now + 2

abbrev pub decreases-add_kind : goal.decreases-add_kind
decreases-add_kind l = 8 * size-SchemaObject l.schema.now + 1

abbrev pub decreases-add_subschemas : goal.decreases-add_subschemas
decreases-add_subschemas l = 8 * size-SchemaObject l.schema.now + 1

abbrev pub decreases-add_array : goal.decreases-add_array
decreases-add_array l = 8 * size-SchemaObject l.schema.now

abbrev pub decreases-add_object : goal.decreases-add_object
decreases-add_object l = 8 * size-SchemaObject l.schema.now

abbrev pub decreases-add_array_parts : goal.decreases-add_array_parts
decreases-add_array_parts l = 8 * size-ArrayParts l.array.now + 2

abbrev pub decreases-items_json : goal.decreases-items_json
decreases-items_json l = 8 * size-ArrayParts l.array.now + 1

abbrev pub decreases-item_json : goal.decreases-item_json
decreases-item_json l = 8 * size-Items l.items.now + 1

abbrev pub decreases-truth_or_schema : goal.decreases-truth_or_schema
decreases-truth_or_schema l = 8 * size-Schema l.schema.now + 1

abbrev pub decreases-add_object_parts : goal.decreases-add_object_parts
decreases-add_object_parts l = 8 * size-ObjectParts l.object.now + 4

abbrev pub decreases-properties_json : goal.decreases-properties_json
decreases-properties_json l = 8 * size-ObjectParts l.object.now + 3

abbrev pub decreases-additional_json : goal.decreases-additional_json
decreases-additional_json l = 8 * size-ObjectParts l.object.now + 3

abbrev pub decreases-property_members : goal.decreases-property_members
decreases-property_members l = 8 * most size-Property l.properties.now + 2

abbrev pub decreases-property_member : goal.decreases-property_member
decreases-property_member l = 8 * size-Property l.property.now + 1

abbrev pub decreases-add_schemas : goal.decreases-add_schemas
decreases-add_schemas l = 8 * size-Subschemas l.subschemas.now + 2

abbrev pub decreases-schemas_json : goal.decreases-schemas_json
decreases-schemas_json l = 8 * most size-Schema (unwrap_or l.schemas.now []) + 2

abbrev pub decreases-not_json : goal.decreases-not_json
decreases-not_json l = 8 * unwrap_or (option_map size-Schema l.schema.now) 0 + 1

abbrev pub decreases-list_json : goal.decreases-list_json
decreases-list_json l = 8 * most size-Schema l.schemas.now + 1

abbrev pub invariant-list_json-loop-schema : goal.invariant-list_json-loop-schema
invariant-list_json-loop-schema l = l.list ≡ map untitled (map schema_written (take l.schema-index l.schemas))

abbrev pub invariant-property_members-loop-property : goal.invariant-property_members-loop-property
invariant-property_members-loop-property l = l.members ≡ map pair_member (map property_written (take l.property-index l.properties))
