-- That the steps at each value are never spent.
use Rattle.std.specs.Prelude.{◌≡◌, ◌≤◌, ℕ}
use Rattle.schema_values.specs.declared.json_value.Json.{Json}
use Rattle.schema_values.specs.declared.schema.Schema.{Schema}
use Rattle.openapi_values.specs.JsonAdmits.{admits_within as written_admits_within}
use Rattle.openapi_values.specs.Room.{room as room_of_written}
use Rattle.schema_meaning.specs.Count.{room}
use Rattle.schema_meaning.specs.Definitions.{NamedSchemas}
use Rattle.schema_meaning.specs.Meaning.{admits_within}

-- from the room on, more steps do not change whether a schema admits a value
abbrev pub MeaningStepsSuffice : NamedSchemas → Schema → Type 0
MeaningStepsSuffice definitions schema = (json : Json) (steps : ℕ) → room definitions schema ≤ steps
    → admits_within definitions steps json steps schema ≡ admits_within definitions (room definitions schema) json (room definitions schema) schema

-- the same of a written schema in a document
abbrev pub WrittenStepsSuffice : Json → Json → Type 0
WrittenStepsSuffice doc schema = (json : Json) (steps : ℕ) → room_of_written doc schema ≤ steps
    → written_admits_within doc steps json steps schema ≡ written_admits_within doc (room_of_written doc schema) json (room_of_written doc schema) schema
