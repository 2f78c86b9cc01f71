-- A truth value, left out where it is false.
use Rattle.std.specs.Prelude.{Bool, true, false, Option, Some, None}
use Rattle.schema_values.specs.declared.json_value.Json.{Json, Bool as Truth}

-- `true`, or no value
abbrev pub if_true : Bool → Option Json
if_true true = Some (Truth true)
if_true false = None
