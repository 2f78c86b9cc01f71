-- The value that bytes read as, as a function and as a relation.
use Rattle.std.proofs.Common.{◌≡◌, ℕ, List, Bool, true, false, cond, Option, Some, None, option_and_then, refl, ◌∙◌, ap}
use Rattle.std.proofs.lemmas.Str.{IsUtf8-from_is_utf8, is_utf8-from_IsUtf8}
use Rattle.std.specs.Str.{is_utf8}
use Rattle.serde_json.specs.Read.{read as data_of_text}
use Rattle.schema_values.specs.declared.json_value.Json.{Json}
use Rattle.schema_values.specs.Reading.{Reads, json_of}
use Rattle.api_extract.specs.Readings.{value_read}

module _ (bytes : List ℕ) where
  pub read_value : (json : Json) → Reads bytes json → value_read bytes ≡ Some json
  read_value json reads =
      ap (λ (b : Bool). cond b (option_and_then json_of (data_of_text bytes)) None) (is_utf8-from_IsUtf8 bytes reads.0)
      ∙ reads.1

  pub value_reads : (json : Json) → value_read bytes ≡ Some json → Reads bytes json
  value_reads json e = by_text (is_utf8 bytes) refl e
    where
      by_text : (b : Bool) → is_utf8 bytes ≡ b → cond b (option_and_then json_of (data_of_text bytes)) None ≡ Some json
          → Reads bytes json
      by_text true is e = (IsUtf8-from_is_utf8 bytes is, e)
      by_text false is e = absurd (cc e)

  pub unread : ((json : Json) → Reads bytes json → ⊥) → value_read bytes ≡ None
  unread none = by_value (value_read bytes) refl
    where
      by_value : (o : Option Json) → value_read bytes ≡ o → o ≡ None
      by_value None e = refl
      by_value (Some json) e = absurd (none json (value_reads json e))
