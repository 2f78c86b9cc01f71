-- The JSON value that bytes read as, as a function of the bytes.
use Rattle.std.specs.Prelude.{ℕ, List, Option, None, option_and_then, if◌then◌else◌}
use Rattle.std.specs.Str.{is_utf8}
use Rattle.serde_json.specs.Read.{read as data_of_text}
use Rattle.schema_values.specs.declared.json_value.Json.{Json}
use Rattle.schema_values.specs.Reading.{json_of}

-- the value that the bytes read as, none where they are no text or no JSON (RFC 8259), or hold a float
abbrev pub value_read : List ℕ → Option Json
value_read bytes = if is_utf8 bytes then option_and_then json_of (data_of_text bytes) else None
