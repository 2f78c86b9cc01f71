-- The definitions that schemas refer to by name (OpenAPI 3.0.3, Components Object and Reference Object).
use Rattle.std.specs.Prelude.{ℕ, List, Option, None}
use Rattle.schema_values.specs.declared.schema.Schema.{Schema}
use Rattle.schema_values.specs.declared.schema.SchemaObject.{out-SchemaObject}
use Rattle.openapi_values.specs.Find.{value_at}
use Rattle.openapi_values.specs.Lookup.{name_in}
use Rattle.schema_meaning.specs.Forms.{by_form}

-- schemas under their names
abbrev pub NamedSchemas : Type 0
NamedSchemas = List (List ℕ × Schema)

-- the schema of a name, the first
abbrev pub schema_named : NamedSchemas → List ℕ → Option Schema
schema_named definitions name = value_at name definitions

-- the name that a schema refers to, where it is a reference to `#/components/schemas/NAME`
abbrev pub name_referred : Schema → Option (List ℕ)
name_referred = by_form (λ truth. None) (λ object. name_in (out-SchemaObject object).reference)
