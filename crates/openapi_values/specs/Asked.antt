-- What a schema is asked of at one value: a JSON value, or a text.
use Rattle.std.specs.Str.{chars}
use Rattle.schema_values.specs.declared.json_value.Json.{Json, Text as Words}
use Rattle.openapi_values.specs.declared.asked.Asked.{Asked}
use Rattle.openapi_values.specs.declared.asked.Asked.TheVariants.{Value, Text}

-- the JSON value that is asked; a text is the JSON text of its characters
abbrev pub asked_json : Asked → Json
asked_json (Value value) = value.now
asked_json (Text text) = Words (chars text.now)
