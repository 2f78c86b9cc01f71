-- The documents that have the written schemas of the definitions that a schema reaches.
use Rattle.std.specs.Prelude.{◌≡◌, ℕ, List, Option, Some, option_map}
use Rattle.schema_values.specs.declared.json_value.Json.{Json}
use Rattle.schema_values.specs.declared.schema.Schema.{Schema}
use Rattle.openapi_values.specs.Lookup.{definition}
use Rattle.openapi_values.specs.SchemaJson.{schema_json}
use Rattle.schema_meaning.specs.Definitions.{NamedSchemas, schema_named, name_referred}
use Rattle.schema_meaning.specs.Reached.{IsReached}

-- under a name the document has the definition as it is written under some title, and nothing where there is none
abbrev pub Defines : Json → NamedSchemas → List ℕ → Type 0
Defines doc definitions name = (title : Option (List ℕ)) × (definition doc name ≡ option_map (schema_json title) (schema_named definitions name))

-- so under each name that is referred to
abbrev pub DefinesReached : Json → NamedSchemas → Schema → Type 0
DefinesReached doc definitions whole = (schema : Schema) (name : List ℕ) → IsReached definitions whole schema → name_referred schema ≡ Some name → Defines doc definitions name
