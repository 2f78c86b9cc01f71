-- The documents that have the schemas of the definitions that a descriptor leads to.
use Rattle.std.specs.Prelude.{◌≡◌, ℕ, List, Some}
use Rattle.schema_values.specs.declared.json_value.Json.{Json}
use Rattle.openapi_values.specs.Lookup.{definition as schema_of_name}
use Rattle.descriptors.specs.declared.desc.Desc.{Desc}
use Rattle.descriptors.specs.declared.table.Definition.{Definition}
use Rattle.descriptors.specs.Definitions.{entry_of}
use Rattle.typed_values.specs.SchemaTable.{schema_json_described}
use Rattle.typed_values.specs.Reached.{IsReached}

-- a document has the schema of each definition that a descriptor reaches, under its name
abbrev pub DefinesReached : Json → List Definition → Desc → Type 0
DefinesReached doc table desc =
    (name : List ℕ) (e : Definition) → IsReached table desc name → entry_of table name ≡ Some e → schema_of_name doc name ≡ Some (schema_json_described table e.description e.desc)
