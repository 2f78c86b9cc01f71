-- The steps at each value: as many as there are schemas to go through, and one more.
use Rattle.std.specs.Prelude.{ℕ, suc, ◌+◌, sum, map, [], unwrap_or}
use Rattle.schema_values.specs.declared.schema.ArrayParts.{ArrayParts-F}
use Rattle.schema_values.specs.declared.schema.Items.{Items-F}
use Rattle.schema_values.specs.declared.schema.Items.TheOpen as open_types
use Rattle.schema_values.specs.declared.schema.ObjectParts.{ObjectParts-F}
use Rattle.schema_values.specs.declared.schema.Property.{Property-F}
use Rattle.schema_values.specs.declared.schema.Schema.{Schema, Schema-F, fold-Schema}
use Rattle.schema_values.specs.declared.schema.SchemaObject.{SchemaObject-F}
use Rattle.schema_values.specs.declared.schema.Subschemas.{Subschemas-F}
use Rattle.schema_meaning.specs.Definitions.{NamedSchemas}

-- one level of each type, where each smaller part stands as the number of schemas in it
abbrev pub Counted : ((A B C D E F G : Type 0) → Type 0) → Type 0
Counted F = F ℕ ℕ ℕ ℕ ℕ ℕ ℕ

-- a schema, and those inside it
abbrev pub schema_step : Counted Schema-F → ℕ
schema_step (open_types.Bool truth) = 1
schema_step (open_types.Object inside) = suc inside

abbrev pub items_step : Counted Items-F → ℕ
items_step (open_types.One schema) = schema
items_step (open_types.Tuple schemas) = sum schemas

abbrev pub array_step : Counted ArrayParts-F → ℕ
array_step array = unwrap_or array.items 0

abbrev pub property_step : Counted Property-F → ℕ
property_step property = property.schema

abbrev pub object_parts_step : Counted ObjectParts-F → ℕ
object_parts_step object = sum object.properties + unwrap_or object.additional 0

abbrev pub subschemas_step : Counted Subschemas-F → ℕ
subschemas_step subschemas =
    sum (unwrap_or subschemas.all_of []) + sum (unwrap_or subschemas.any_of []) + sum (unwrap_or subschemas.one_of []) + unwrap_or subschemas.not 0

abbrev pub object_step : Counted SchemaObject-F → ℕ
object_step object = unwrap_or object.subschemas 0 + unwrap_or object.array 0 + unwrap_or object.object 0

-- the number of schemas in a schema, with itself
unfoldable pub schemas : Schema → ℕ
schemas = fold-Schema ℕ ℕ ℕ ℕ ℕ ℕ ℕ items_step schema_step array_step object_parts_step property_step object_step subschemas_step

-- the steps at each value, for definitions and a schema
abbrev pub room : NamedSchemas → Schema → ℕ
room definitions schema = suc (sum (map (λ definition. schemas definition.1) definitions) + schemas schema)
