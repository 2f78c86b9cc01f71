-- What is asked of schemas in a document, and the steps at each value.
use Rattle.std.specs.Prelude.{ℕ, suc, Bool}
use Rattle.schema_values.specs.declared.json_value.Json.{Json}
use Rattle.openapi_values.specs.declared.admits.Admitter.{Admitter}
use Rattle.openapi_values.specs.declared.asked.Asked.{Asked}
use Rattle.openapi_values.specs.Asked.{asked_json}
use Rattle.openapi_values.specs.JsonAdmits.{admits_within}
use Rattle.openapi_values.specs.Smaller.{smaller_admits}
use Rattle.openapi_values.specs.Steps.{left}

-- the steps at each value: the first one, and those that are left after it
abbrev pub room_at : Admitter → ℕ
room_at admitter = suc (left admitter.after_first.now)

-- whether a schema admits what is asked, with so many steps left
abbrev pub admits_of : Admitter → Asked → ℕ → Json → Bool
admits_of admitter asked steps = admits_within admitter.doc.now (room_at admitter) (asked_json asked) steps

-- whether a schema admits a smaller value, with all steps
abbrev pub smaller_of : Admitter → Json → Json → Bool
smaller_of admitter = smaller_admits admitter.doc.now (room_at admitter)
