-- The entries of a map of schemas by their bytes.
use Rattle.std.specs.Prelude.{ℕ, List, map, string_bytes}
use Rattle.std.specs.declared.alloc.Global.{Global}
use Rattle.std.specs.declared.string.String.{String}
use Rattle.schema_values.specs.declared.schema.Schema.{Schema}

-- the bytes of each name, and its schema
abbrev pub entries_by_bytes : List (String Global × Schema) → List (List ℕ × Schema)
entries_by_bytes entries = map (λ entry. (string_bytes entry.0, entry.1)) entries

-- the bytes of the names
abbrev pub names_by_bytes : List (String Global × Schema) → List (List ℕ)
names_by_bytes entries = map (λ entry. string_bytes entry.0) entries
