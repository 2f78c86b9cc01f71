-- Schemas and what is said of them (JSON Schema, annotations; OpenAPI 3.0.3, Schema Object).
use Rattle.std.specs.Prelude.{ℕ, Bool, true, false, List, [], ◌∷◌, Option, Some, None, unwrap_or, not}
use Rattle.schema_values.specs.declared.json_value.Member.{Member}
use Rattle.schema_values.specs.declared.schema.Items.TheOpen as open_types
use Rattle.schema_values.specs.declared.schema.Schema.{Schema, Object, out-Schema}
use Rattle.schema_values.specs.declared.schema.SchemaObject.{SchemaObject, out-SchemaObject, roll-SchemaObject}
use Rattle.schema_util.specs.Forms.{SchemaForm, truth, bare, combination, form_of, schema_form, SchemaKind, all_of, not_of, kind_of}

-- the schema of a list that has no other
abbrev pub only : List Schema → Option Schema
only (schema ∷ []) = Some schema
only schemas = None

-- the one schema of an `all_of` that stands alone
abbrev pub lone_of : SchemaKind → Option Schema
lone_of (all_of schemas) = only schemas
lone_of kind = None

-- the one schema of an `all_of` that is all of a schema
abbrev pub lone_member : SchemaForm → Option Schema
lone_member (combination subschemas) = lone_of (kind_of subschemas)
lone_member form = None

-- a schema object without title, description and default, neither deprecated, read-only nor write-only
abbrev pub undescribed : SchemaObject → Schema
undescribed object = Object (roll-SchemaObject (record (out-SchemaObject object) {
  title = None;
  description = None;
  default = None;
  deprecated = false;
  read_only = false;
  write_only = false;
}))

-- a schema's description, and the schema without it
abbrev pub description_and_schema : Schema → Option (List ℕ) × Schema
description_and_schema schema = elim (out-Schema schema) [
  | open_types.Bool b ↦ (None, schema)
  | open_types.Object object ↦ ((out-SchemaObject object).description, unwrap_or (lone_member (form_of object)) (undescribed object))
]

-- the extensions of a schema object
abbrev pub extensions_of : Schema → Option (List Member)
extensions_of schema = elim (out-Schema schema) [ open_types.Bool b ↦ None | open_types.Object object ↦ Some (out-SchemaObject object).extensions ]

-- whether a schema says nothing: it is true, or has no part
abbrev pub says_nothing : SchemaForm → Bool
says_nothing (truth b) = b
says_nothing bare = true
says_nothing form = false

-- whether subschemas are the `not` of a schema that says nothing, and no other
abbrev pub is_not_of_all : SchemaKind → Bool
is_not_of_all (not_of schema) = says_nothing (schema_form schema)
is_not_of_all kind = false

-- whether a form is false, or nothing but the `not` of a schema that says nothing
abbrev pub is_empty_form : SchemaForm → Bool
is_empty_form (truth b) = not b
is_empty_form (combination subschemas) = is_not_of_all (kind_of subschemas)
is_empty_form form = false

-- whether a schema says that there is no value
abbrev pub is_empty : Schema → Bool
is_empty schema = is_empty_form (schema_form schema)
