-- A text that a value was printed to reads as the value.
use Rattle.std.proofs.Common.{◌≡◌, ◌≤◌, ℕ, List, String, Global, string_bytes, chars, true, sym, ap, ◌∙◌, subst}
use Rattle.std.proofs.Math.Utf8.{encodes, scalars}
use Rattle.std.proofs.lemmas.Str.{scalars-chars, IsUtf8-string_bytes}
use Rattle.schema_values.specs.declared.json_value.Json.{Json}
use Rattle.schema_values.specs.Depth.{depth}
use Rattle.schema_values.specs.Pretty.{pretty_of}
use Rattle.schema_values.specs.Print.{compact_of}
use Rattle.schema_values.specs.Reading.{Reads}
use Rattle.schema_values.specs.Sound.{IsSound}
use Rattle.schema_values.specs.SortedMembers.{sorted_members}
use Rattle.schema_values.proofs.PrettySpelled.{pretty_spelled}
use Rattle.schema_values.proofs.Printing.{compact_spelled, reads_back}
use Rattle.schema_values.proofs.ScalarLemmas.{of_compact, of_pretty}

scalars_of : (s : String Global) (cs : List ℕ) → chars (string_bytes s) ≡ cs → scalars cs ≡ true
scalars_of s cs is = sym (ap scalars is) ∙ scalars-chars (string_bytes s) (IsUtf8-string_bytes s)

pub compact_reads : (s : String Global) (cs : List ℕ) (j : Json) → chars (string_bytes s) ≡ cs → cs ≡ compact_of j → IsSound j → depth j ≤ 127 → Reads (encodes cs) (sorted_members j)
compact_reads s cs j view is sound shallow =
    let texts = of_compact j (sym (ap scalars is) ∙ scalars_of s cs view) in
    subst (λ text. Reads (encodes text) (sorted_members j)) (sym is) (reads_back j (compact_of j) sound texts shallow (compact_spelled j sound texts))

pub pretty_reads : (s : String Global) (cs : List ℕ) (j : Json) → chars (string_bytes s) ≡ cs → cs ≡ pretty_of j → IsSound j → depth j ≤ 127 → Reads (encodes cs) (sorted_members j)
pretty_reads s cs j view is sound shallow =
    let texts = of_pretty j 0 (sym (ap scalars is) ∙ scalars_of s cs view) in
    subst (λ text. Reads (encodes text) (sorted_members j)) (sym is) (reads_back j (pretty_of j) sound texts shallow (pretty_spelled j sound texts 0))
