-- Whether a smaller value is admitted, with all steps.
use Rattle.std.specs.Prelude.{ℕ, Bool}
use Rattle.schema_values.specs.declared.json_value.Json.{Json}
use Rattle.openapi_values.specs.JsonAdmits.{admits_within}

-- whether a schema of the document admits the value, with as many steps as at any value
abbrev pub smaller_admits : Json → ℕ → Json → Json → Bool
smaller_admits doc room value schema = admits_within doc room value room schema
