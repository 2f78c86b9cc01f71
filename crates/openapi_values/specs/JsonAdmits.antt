-- What a schema admits, in a document: both are read from their JSON (OpenAPI 3.0.3, Schema Object).
use Rattle.std.specs.Prelude.{ℕ, zero, suc, Bool, false, ◌&&◌, ◌||◌, IsTrue, List, codes, if◌then◌else◌}
use Rattle.std.specs.Option.{option_map_or}
use Rattle.schema_values.specs.declared.json_value.Json.{Json, out-Json}
use Rattle.schema_values.specs.declared.json_value.Member.{Member}
use Rattle.schema_values.specs.Beside.{Beside, LevelBeside, made_of}
use Rattle.openapi_values.specs.Levels.{Level, as_object, is_null}
use Rattle.openapi_values.specs.Lookup.{definition, reference_in, is_set, is_null_form}
use Rattle.openapi_values.specs.Options.{is_some_and}
use Rattle.openapi_values.specs.Room.{room}
use Rattle.openapi_values.specs.Rows.{members_hold, in_subset}

-- a schema object outside the subset admits nothing; one inside it null beside `nullable`, the null form null alone,
-- and any other that of which each member holds
abbrev pub object_admits : {X : Type 0} → (X → Json → Bool) → (Json → Bool) → Json → Level X → List Member → Bool
object_admits smaller next json j schema =
    in_subset schema
    && (is_set (codes "nullable") schema && is_null j
    || (if is_null_form schema then is_null j else members_hold smaller next json j schema))

-- a reference admits what its definition does
abbrev pub members_admit : {X : Type 0} → Json → (X → Json → Bool) → (Json → Bool) → Json → Level X → List Member → Bool
members_admit doc smaller next json j schema =
    option_map_or (λ name. is_some_and (definition doc name) next) (reference_in schema) (object_admits smaller next json j schema)

-- a schema that is no object admits nothing
abbrev pub schema_admits : {X : Type 0} → Json → (X → Json → Bool) → (Json → Bool) → Json → Level X → Json → Bool
schema_admits doc smaller next json j s = is_some_and (as_object (out-Json s)) (members_admit doc smaller next json j)

-- whether a value is admitted, with so many steps left, by a schema
abbrev pub Admission : Type 0
Admission = ℕ → Json → Bool

-- whether a smaller value is admitted, with so many steps left
abbrev pub admitted_beside : ℕ → Beside Admission → Json → Bool
admitted_beside steps x s = x.made steps s

-- with no step left nothing is admitted; at each smaller value the steps are renewed
unfoldable pub admits_at : Json → ℕ → Json → LevelBeside Admission → Admission
admits_at doc room json j zero s = false
admits_at doc room json j (suc n) s = schema_admits doc (admitted_beside room) (admits_at doc room json j n) json j s

-- whether a value is admitted, where the steps at each smaller value are these
unfoldable pub admits_within : Json → ℕ → Json → Admission
admits_within doc room = made_of (admits_at doc room)

-- whether a schema of a document admits a value
abbrev pub JsonAdmits : Json → Json → Json → Type 0
JsonAdmits doc schema json = IsTrue (admits_within doc (room doc schema) json (room doc schema) schema)
