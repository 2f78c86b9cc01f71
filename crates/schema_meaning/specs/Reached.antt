-- Which schemas a schema leads to, with definitions for its references.
use Rattle.std.specs.Prelude.{◌≡◌, ℕ, Bool, ◌||◌, List, [], ◌∷◌, ◌++◌, map, Option, Some, None, is_some, unwrap_or, if◌then◌else◌, Contains}
use Rattle.std.specs.Option.{option_map_or}
use Rattle.schema_values.specs.declared.schema.ArrayParts.{ArrayParts}
use Rattle.schema_values.specs.declared.schema.InstanceType.TheVariants.{Array, Object}
use Rattle.schema_values.specs.declared.schema.InstanceTypes.{InstanceTypes}
use Rattle.schema_values.specs.declared.schema.InstanceTypes.TheVariants.{Single}
use Rattle.schema_values.specs.declared.schema.Items.{Items}
use Rattle.schema_values.specs.declared.schema.ObjectParts.{ObjectParts, out-ObjectParts}
use Rattle.schema_values.specs.declared.schema.Schema.{Schema}
use Rattle.schema_values.specs.declared.schema.SchemaObject.{SchemaObject, out-SchemaObject}
use Rattle.schema_values.specs.declared.schema.Subschemas.{Subschemas}
use Rattle.schema_values.specs.Parts.{Parts}
use Rattle.openapi_values.specs.SchemaJson.{without_values}
use Rattle.schema_meaning.specs.Definitions.{NamedSchemas, schema_named, name_referred}
use Rattle.schema_meaning.specs.Forms.{by_form, by_items}

-- a list of one schema or none
abbrev pub if_any : Option Schema → List Schema
if_any None = []
if_any (Some schema) = schema ∷ []

-- the schemas of the same value
abbrev pub combined_schemas : Subschemas → List Schema
combined_schemas subschemas = unwrap_or subschemas.all_of [] ++ (unwrap_or subschemas.any_of [] ++ (unwrap_or subschemas.one_of [] ++ if_any subschemas.not))

-- the schemas of items
abbrev pub item_schemas : Items → List Schema
item_schemas = by_items (λ schema. schema ∷ []) (λ schemas. schemas)

-- the schemas of the items of an array
abbrev pub array_schemas : ArrayParts → List Schema
array_schemas array = option_map_or item_schemas array.items []

-- the schemas of properties, and that of additional ones
abbrev pub object_schemas : ObjectParts → List Schema
object_schemas object = map (λ p. p.schema) (out-ObjectParts object).properties ++ if_any (out-ObjectParts object).additional

-- the schemas of smaller values: those of the items of an array, or of the properties of an object
abbrev pub smaller_schemas : Option InstanceTypes → Parts → List Schema
smaller_schemas (Some (Single Array)) parts = option_map_or array_schemas parts.array []
smaller_schemas (Some (Single Object)) parts = option_map_or object_schemas parts.object []
smaller_schemas types parts = []

-- nothing counts beside a reference, which stands for its definition, or beside values of which there are none
abbrev pub stands_alone : Parts → Bool
stands_alone parts = is_some parts.reference || without_values parts.enum_values

-- the schemas in a schema object that are of the same value
abbrev pub beside_in : SchemaObject → List Schema
beside_in object = if stands_alone (out-SchemaObject object) then [] else option_map_or combined_schemas (out-SchemaObject object).subschemas []

-- the schemas in a schema object that are of smaller values
abbrev pub below_in : SchemaObject → List Schema
below_in object = if stands_alone (out-SchemaObject object) then [] else smaller_schemas (out-SchemaObject object).instance_type (out-SchemaObject object)

-- the subschemas of a schema
abbrev pub beside : Schema → List Schema
beside = by_form (λ truth. []) beside_in

-- the schemas in a schema that are of smaller values
abbrev pub below : Schema → List Schema
below = by_form (λ truth. []) below_in

-- one step at the same value: to a subschema, or to the definition that a reference names
pub data LeadsTo (definitions : NamedSchemas) : Schema → Schema → Type 0 where
  subschema : {schema : Schema} (next : Schema) → Contains (beside schema) next → LeadsTo definitions schema next
  referred : {schema : Schema} (name : List ℕ) (next : Schema) → name_referred schema ≡ Some name → schema_named definitions name ≡ Some next → LeadsTo definitions schema next

-- a chain of such steps
pub data LeadsOnTo (definitions : NamedSchemas) : Schema → Schema → Type 0 where
  at_once : {schema : Schema} (next : Schema) → LeadsTo definitions schema next → LeadsOnTo definitions schema next
  through : {schema : Schema} (next last : Schema) → LeadsTo definitions schema next → LeadsOnTo definitions next last → LeadsOnTo definitions schema last

-- the schema itself, and what it leads to at the same value or at smaller ones
pub data IsReached (definitions : NamedSchemas) (whole : Schema) : Schema → Type 0 where
  itself : IsReached definitions whole whole
  same_value : (schema next : Schema) → IsReached definitions whole schema → LeadsTo definitions schema next → IsReached definitions whole next
  smaller_value : (schema next : Schema) → IsReached definitions whole schema → Contains (below schema) next → IsReached definitions whole next
