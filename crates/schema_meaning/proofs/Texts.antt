-- What the written bounds of a text ask of it.
use Rattle.std.proofs.Common.{◌≡◌, ℕ, Bool, true, ◌&&◌, List, Option, Some, None, option_map, option_and_then, length, refl, ◌∙◌, ap₂}
use Rattle.std.proofs.Math.Bool.{and-true}
use Rattle.std.specs.List.{list_any}
use Rattle.schema_values.specs.declared.json_value.Json.{Json, Text}
use Rattle.schema_values.specs.declared.json_value.Json.TheOpen.{Json-F}
use Rattle.schema_values.specs.declared.json_value.Member.{Member}
use Rattle.schema_values.specs.declared.schema.LengthBounds.{LengthBounds}
use Rattle.schema_values.specs.Same.{same_json}
use Rattle.openapi_values.specs.Keywords.{is_annotation, bound_or, part_of}
use Rattle.openapi_values.specs.Options.{is_none_or}
use Rattle.openapi_values.specs.Rows.{is_enough, is_not_too_many}
use Rattle.openapi_values.specs.SchemaJson.{text_entries, count_json}
use Rattle.schema_meaning.specs.Asked.{length_holds}
use Rattle.schema_meaning.proofs.Behind.{always}
use Rattle.schema_meaning.proofs.Combined.{rows}
use Rattle.schema_meaning.proofs.TypeEntries.{enum_part, least_part, most_part}

lengths_part : (t : List ℕ) (o : Option LengthBounds)
    → (is_none_or (count_json (option_and_then (λ b. b.min) o)) (is_enough (length t)) && (is_none_or (count_json (option_and_then (λ b. b.max) o)) (is_not_too_many (length t)) && true)) ≡ is_none_or o (length_holds t)
lengths_part t None = refl
lengths_part t (Some b) = ap₂ (λ (x y : Bool). x && y) (least_part b.min (length t)) (and-true (is_none_or (count_json b.max) (is_not_too_many (length t))) ∙ most_part b.max (length t))

pub text_part : {X : Type 0} (smaller : X → Json → Bool) (next : Json → Bool) (value : Json) (t : List ℕ) (schema : List Member) (format : Option (List ℕ)) (o : Option LengthBounds) (values : Option (List Json))
    → rows smaller next value (Json-F.Text t) schema (text_entries format o values) ≡ (is_none_or values (list_any (same_json value)) && is_none_or o (length_holds t))
unfolding is_annotation bound_or part_of
text_part smaller next value t schema format o values =
    ap₂ (λ (x y : Bool). x && y) (always (option_map Text format)) (ap₂ (λ (x y : Bool). x && y) (enum_part value values) (lengths_part t o))
