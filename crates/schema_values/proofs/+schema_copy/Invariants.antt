use Rattle.std.proofs.Common.{◌≡◌, ◌+◌, ◌*◌, [], take, option_map, unwrap_or}
use denote.Param.Weighed.{most}
use Rattle.schema_values.specs.declared.schema.ArrayParts.{size-ArrayParts}
use Rattle.schema_values.specs.declared.schema.Items.{size-Items}
use Rattle.schema_values.specs.declared.schema.ObjectParts.{size-ObjectParts}
use Rattle.schema_values.specs.declared.schema.Property.{size-Property}
use Rattle.schema_values.specs.declared.schema.Schema.{size-Schema}
use Rattle.schema_values.specs.declared.schema.SchemaObject.{size-SchemaObject}
use Rattle.schema_values.specs.declared.schema.Subschemas.{size-Subschemas}
use Rattle.schema_values.proofs.+schema_copy.Given as goal

abbrev pub decreases-schema::Schema::copy : goal.decreases-schema::Schema::copy
decreases-schema::Schema::copy l = 8 * size-Schema l.self.now

abbrev pub decreases-schema::SchemaObject::copy : goal.decreases-schema::SchemaObject::copy
decreases-schema::SchemaObject::copy l = 8 * size-SchemaObject l.self.now + 7

abbrev pub decreases-schema_copy::copy_nested_parts : goal.decreases-schema_copy::copy_nested_parts
decreases-schema_copy::copy_nested_parts l = 8 * size-SchemaObject l.object.now + 6

abbrev pub decreases-schema_copy::copy_array : goal.decreases-schema_copy::copy_array
decreases-schema_copy::copy_array l = 8 * unwrap_or (option_map size-ArrayParts l.array.now) 0 + 5

abbrev pub decreases-schema::ArrayParts::copy : goal.decreases-schema::ArrayParts::copy
decreases-schema::ArrayParts::copy l = 8 * size-ArrayParts l.self.now + 4

abbrev pub decreases-schema_copy::copy_items : goal.decreases-schema_copy::copy_items
decreases-schema_copy::copy_items l = 8 * unwrap_or (option_map size-Items l.items.now) 0 + 3

abbrev pub decreases-schema::Items::copy : goal.decreases-schema::Items::copy
decreases-schema::Items::copy l = 8 * size-Items l.self.now + 2

abbrev pub decreases-schema_copy::copy_object : goal.decreases-schema_copy::copy_object
decreases-schema_copy::copy_object l = 8 * unwrap_or (option_map size-ObjectParts l.object.now) 0 + 4

abbrev pub decreases-schema::ObjectParts::copy : goal.decreases-schema::ObjectParts::copy
decreases-schema::ObjectParts::copy l = 8 * size-ObjectParts l.self.now + 3

abbrev pub decreases-schema_copy::copy_properties : goal.decreases-schema_copy::copy_properties
decreases-schema_copy::copy_properties l = 8 * most size-Property l.properties.now + 2

abbrev pub decreases-schema::Property::copy : goal.decreases-schema::Property::copy
decreases-schema::Property::copy l = 8 * size-Property l.self.now + 1

abbrev pub decreases-schema_copy::copy_schema : goal.decreases-schema_copy::copy_schema
decreases-schema_copy::copy_schema l = 8 * unwrap_or (option_map size-Schema l.schema.now) 0 + 1

abbrev pub decreases-schema_copy::copy_subschemas : goal.decreases-schema_copy::copy_subschemas
decreases-schema_copy::copy_subschemas l = 8 * unwrap_or (option_map size-Subschemas l.subschemas.now) 0 + 4

abbrev pub decreases-schema::Subschemas::copy : goal.decreases-schema::Subschemas::copy
decreases-schema::Subschemas::copy l = 8 * size-Subschemas l.self.now + 3

abbrev pub decreases-schema_copy::copy_schemas : goal.decreases-schema_copy::copy_schemas
decreases-schema_copy::copy_schemas l = 8 * most size-Schema (unwrap_or l.schemas.now []) + 2

abbrev pub decreases-schema_copy::copy_list : goal.decreases-schema_copy::copy_list
decreases-schema_copy::copy_list l = 8 * most size-Schema l.schemas.now + 1

abbrev pub invariant-schema_copy::copy_list-loop-schema : goal.invariant-schema_copy::copy_list-loop-schema
invariant-schema_copy::copy_list-loop-schema l = l.copies ≡ take l.schema-index l.schemas

abbrev pub invariant-schema_copy::copy_properties-loop-property : goal.invariant-schema_copy::copy_properties-loop-property
invariant-schema_copy::copy_properties-loop-property l = l.copies ≡ take l.property-index l.properties
