-- Which JSON values a schema admits, with definitions for its references (OpenAPI 3.0.3, Schema Object).
use Rattle.std.specs.Prelude.{ℕ, zero, suc, Bool, false, IsTrue, Some, option_and_then}
use Rattle.std.specs.Option.{option_map_or}
use Rattle.schema_values.specs.declared.json_value.Json.{Json}
use Rattle.schema_values.specs.declared.schema.Schema.{Schema}
use Rattle.schema_values.specs.declared.schema.SchemaObject.{SchemaObject, out-SchemaObject}
use Rattle.schema_values.specs.Beside.{Beside, LevelBeside, made_of}
use Rattle.openapi_values.specs.Levels.{Level}
use Rattle.openapi_values.specs.Options.{is_some_and}
use Rattle.schema_meaning.specs.Asked.{parts_admit}
use Rattle.schema_meaning.specs.Count.{room}
use Rattle.schema_meaning.specs.Definitions.{NamedSchemas, schema_named}
use Rattle.openapi_values.specs.Lookup.{name_in}
use Rattle.schema_meaning.specs.Forms.{by_form}

-- a reference admits what the definition of its name does, and nothing where there is none; any other object what its parts do
abbrev pub object_admits : {X : Type 0} → NamedSchemas → (X → Schema → Bool) → (Schema → Bool) → Json → Level X → SchemaObject → Bool
object_admits definitions smaller next json j object =
    option_map_or (λ text. is_some_and (option_and_then (schema_named definitions) (name_in (Some text))) next)
    (out-SchemaObject object).reference
    (parts_admit smaller next json j (out-SchemaObject object))

-- a truth value admits all or nothing
abbrev pub schema_admits : {X : Type 0} → NamedSchemas → (X → Schema → Bool) → (Schema → Bool) → Json → Level X → Schema → Bool
schema_admits definitions smaller next json j = by_form (λ truth. truth) (object_admits definitions smaller next json j)

-- whether a value is admitted, with so many steps left, by a schema
abbrev pub Admission : Type 0
Admission = ℕ → Schema → Bool

-- whether a smaller value is admitted, with so many steps left
abbrev pub admitted_beside : ℕ → Beside Admission → Schema → Bool
admitted_beside steps x schema = x.made steps schema

-- with no step left nothing is admitted; at each smaller value the steps are renewed
unfoldable pub admits_at : NamedSchemas → ℕ → Json → LevelBeside Admission → Admission
admits_at definitions room json j zero schema = false
admits_at definitions room json j (suc n) schema = schema_admits definitions (admitted_beside room) (admits_at definitions room json j n) json j schema

-- whether a value is admitted, where the steps at each smaller value are these
unfoldable pub admits_within : NamedSchemas → ℕ → Json → Admission
admits_within definitions room = made_of (admits_at definitions room)

-- whether a schema admits a value, with definitions for its references
abbrev pub SchemaAdmits : NamedSchemas → Schema → Json → Type 0
SchemaAdmits definitions schema json = IsTrue (admits_within definitions (room definitions schema) json (room definitions schema) schema)
