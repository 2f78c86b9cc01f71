-- What a schema object has beside its annotations: the parts of JSON Schema that `schemars` writes.
use Rattle.std.specs.Prelude.{◌||◌, ℕ, Bool, List, Option, Some, None, is_some, if◌then◌else◌}
use Rattle.schema_values.specs.declared.json_value.Json.{Json}
use Rattle.schema_values.specs.declared.schema.InstanceTypes.{InstanceTypes}
use Rattle.schema_values.specs.declared.schema.InstanceTypes.TheVariants.{Single}
use Rattle.schema_values.specs.declared.schema.ObjectParts.{ObjectParts}
use Rattle.schema_values.specs.declared.schema.Schema.{Schema, out-Schema}
use Rattle.schema_values.specs.declared.schema.Items.TheOpen as open_types
use Rattle.schema_values.specs.declared.schema.SchemaObject.{SchemaObject, out-SchemaObject}
use Rattle.schema_values.specs.declared.schema.Subschemas.{Subschemas, out-Subschemas}

-- what a schema is
pub data SchemaForm : Type 0 where
  truth : Bool → SchemaForm
  bare : SchemaForm
  reference : List ℕ → SchemaForm
  combination : Subschemas → SchemaForm
  struct : Option ObjectParts → Option Subschemas → SchemaForm
  values : SchemaForm
  other : SchemaForm

-- a schema object has a format, a constant, bounds or an array
abbrev pub is_limited : SchemaObject → Bool
is_limited object = is_some (out-SchemaObject object).format || is_some (out-SchemaObject object).const_value || is_some (out-SchemaObject object).number
    || is_some (out-SchemaObject object).string || is_some (out-SchemaObject object).array

-- by type, values, subschemas, object and reference, where there is nothing else
abbrev pub by_parts : Option InstanceTypes → Option (List Json) → Option Subschemas → Option ObjectParts → Option (List ℕ) → SchemaForm
by_parts None None None None None = bare
by_parts None None None None (Some text) = reference text
by_parts None None (Some subschemas) None None = combination subschemas
by_parts (Some (Single type)) None subschemas object None = struct object subschemas
by_parts types (Some vs) None None None = values
by_parts types vs subschemas object text = other

-- the form of a schema object
abbrev pub form_of : SchemaObject → SchemaForm
form_of object = if is_limited object then other else by_parts
    (out-SchemaObject object).instance_type
    (out-SchemaObject object).enum_values
    (out-SchemaObject object).subschemas
    (out-SchemaObject object).object
    (out-SchemaObject object).reference

-- the form of a schema
abbrev pub schema_form : Schema → SchemaForm
schema_form schema = elim (out-Schema schema) [ open_types.Bool b ↦ truth b | open_types.Object object ↦ form_of object ]

-- the kind of subschemas, where one alone is given
pub data SchemaKind : Type 0 where
  all_of : List Schema → SchemaKind
  any_of : List Schema → SchemaKind
  one_of : List Schema → SchemaKind
  not_of : Schema → SchemaKind
  mixed : SchemaKind

-- by `all_of`, `any_of`, `one_of` and `not`
abbrev pub by_kinds : Option (List Schema) → Option (List Schema) → Option (List Schema) → Option Schema → SchemaKind
by_kinds (Some schemas) None None None = all_of schemas
by_kinds None (Some schemas) None None = any_of schemas
by_kinds None None (Some schemas) None = one_of schemas
by_kinds None None None (Some schema) = not_of schema
by_kinds all any one not = mixed

-- the kind of some subschemas
abbrev pub kind_of : Subschemas → SchemaKind
kind_of s = by_kinds (out-Subschemas s).all_of (out-Subschemas s).any_of (out-Subschemas s).one_of (out-Subschemas s).not
