-- Definitions under names in UTF-8, as a map of them has them, and under names in characters (OpenAPI 3.0.3, Components Object).
use Rattle.std.specs.Prelude.{◌≡◌, ℕ, List}
use Rattle.std.specs.Str.{encode_utf8_all}
use Rattle.schema_util.specs.References.{Names}
use Rattle.schema_meaning.specs.Definitions.{NamedSchemas, schema_named}

-- each name has the same schema, or none, in both
abbrev pub HasTheSame : Names → NamedSchemas → Type 0
HasTheSame names definitions = (name : List ℕ) → names (encode_utf8_all name) ≡ schema_named definitions name
