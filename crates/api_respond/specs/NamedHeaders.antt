-- The named headers of a success as header lines (OpenAPI 3.0.3, Header Object; RFC 9110, section 5).
use Rattle.std.specs.Prelude.{◌≡◌, ℕ, ⊤, List, [], ◌∷◌, ◌++◌, Option, Some, None, All, codes}
use Rattle.std.specs.Str.{encode_utf8_all}
use Rattle.std.specs.declared.result.Result.TheVariants.{Ok}
use Rattle.descriptors.specs.declared.desc.Desc.{Desc}
use Rattle.descriptors.specs.declared.table.Definition.{Definition}
use Rattle.descriptors.specs.declared.tree.Tree.{Tree}
use Rattle.flat_maps.specs.TextMaps.{TextEntry, WrittenTexts, map_written}
use Rattle.header_lists.specs.HeaderLists.{Line, inserted}
use Rattle.http_header.specs.FieldName.{IsFieldName}
use Rattle.http_header.specs.FieldValue.{IsFieldValue}
use Rattle.http_status.specs.ErrorLines.{header_line}
use Rattle.api_respond.specs.declared.named_headers.Unwritten.{Unwritten}
use Rattle.api_respond.specs.declared.named_headers.Unwritten.TheVariants.{Refused, OutOfMemory}

-- the names and texts that named headers are written as, in the order of the names; none where there are no headers
abbrev pub headers_written : List Definition → Option Desc → Option Tree → WrittenTexts
headers_written table (Some desc) (Some tree) = map_written table desc tree
headers_written table (Some desc) None = Ok []
headers_written table None named = Ok []

-- a name is that of a header field, and its text the value of one
abbrev pub IsHeaderEntry : TextEntry → Type 0
IsHeaderEntry entry = IsFieldName (encode_utf8_all entry.0) × IsFieldValue (encode_utf8_all entry.1)

-- each is so
abbrev pub AreHeaderLines : List TextEntry → Type 0
AreHeaderLines entries = All IsHeaderEntry entries

-- the header line of a name and a text
abbrev pub line_of : TextEntry → Line
line_of entry = header_line (encode_utf8_all entry.0) (encode_utf8_all entry.1)

-- lines among which named ones were inserted, one after the other
abbrev pub with_named : List TextEntry → List Line → List Line
with_named [] lines = lines
with_named (entry ∷ entries) lines = with_named entries (inserted (line_of entry).0 (line_of entry).1 lines)

-- what is told of a name that is no header field's, or whose text is no value of one
pub data IsRefusal (entry : TextEntry) (message : List ℕ) : Type 0 where
  bad_name : ¬ (IsFieldName (encode_utf8_all entry.0))
      → message ≡ codes "bad header name: " ++ entry.0 → IsRefusal entry message
  bad_value : IsFieldName (encode_utf8_all entry.0) → ¬ (IsFieldValue (encode_utf8_all entry.1))
      → message ≡ codes "bad header value: " ++ entry.0 → IsRefusal entry message

-- what is told of the first that is no header line
pub record IsFirstRefused (entries : List TextEntry) (message : List ℕ) : Type 0 where
  pub before : List TextEntry
  pub entry : TextEntry
  pub behind : List TextEntry
  pub place : entries ≡ before ++ entry ∷ behind
  pub valid : AreHeaderLines before
  pub refused : IsRefusal entry message

-- a fact of what is told, where memory did not run out
abbrev pub IfRefusal : Unwritten → (List ℕ → Type 0) → Type 0
IfRefusal (Refused message) Fact = Fact message
IfRefusal OutOfMemory Fact = ⊤
