-- What the written bounds and format of an integer ask of a number.
use Rattle.std.proofs.Common.{◌≡◌, ℕ, ℤ, Bool, true, false, ◌&&◌, ◌||◌, not, List, [], Option, Some, None, option_map, int_le, refl, sym, ◌∙◌, ap, ap₂}
use Rattle.std.proofs.Math.Bool.{and-true}
use Rattle.std.proofs.lemmas.List.Folds.{list_all-append}
use Rattle.std.specs.List.{list_any}
use Rattle.std.specs.Option.{option_map_or}
use Rattle.std.specs.Prelude.{codes, int_lt, is_some}
use Rattle.schema_values.specs.declared.json_value.Json.{Json, Text, out-Json}
use Rattle.schema_values.specs.declared.json_value.Json.TheOpen.{Json-F}
use Rattle.schema_values.specs.declared.json_value.Json.TheVariants as json
use Rattle.schema_values.specs.declared.json_value.Member.{Member}
use Rattle.schema_values.specs.declared.schema.InstanceType.TheVariants.{Integer}
use Rattle.schema_values.specs.declared.schema.InstanceTypes.TheVariants.{Single}
use Rattle.schema_values.specs.declared.schema.NumberBounds.{NumberBounds}
use Rattle.schema_values.specs.Same.{same_json}
use Rattle.openapi_values.specs.declared.keywords.Keyword.TheVariants.{Format}
use Rattle.openapi_values.specs.IfTrue.{if_true}
use Rattle.openapi_values.specs.Keywords.{is_annotation, bound_or, part_of}
use Rattle.openapi_values.specs.Levels.{Level, as_text, as_number}
use Rattle.openapi_values.specs.Lookup.{is_set, is_integer}
use Rattle.openapi_values.specs.Options.{is_none_or, is_some_and}
use Rattle.openapi_values.specs.Rows.{row, in_format, is_under, is_least, is_greatest}
use Rattle.openapi_values.specs.SchemaJson.{bound_json, bound_entries, number_entries, enum_entries}
use Rattle.schema_meaning.specs.Asked.{format_holds, number_holds}
use Rattle.schema_meaning.proofs.Combined.{rows}
use Rattle.schema_meaning.proofs.TypeEntries.{enum_part}

low_part : (n : ℤ) (min below : Option ℤ) (strictly : Bool) → strictly ≡ is_some below → (is_some min && is_some below) ≡ false
    → is_none_or (bound_json min below) (is_least strictly n) ≡ (is_none_or min (λ least. int_le least n) && is_none_or below (λ least. int_lt least n))
low_part n None None strictly e f = refl
low_part n (Some m) None strictly e f = ap (λ (x : Level Json). is_some_and (as_number x) (λ least. is_under strictly least n)) (json.outs-Int m) ∙ ap (λ b. is_under b m n) e ∙ sym (and-true (int_le m n))
low_part n None (Some m) strictly e f = ap (λ (x : Level Json). is_some_and (as_number x) (λ least. is_under strictly least n)) (json.outs-Int m) ∙ ap (λ b. is_under b m n) e
low_part n (Some m) (Some k) strictly e f = absurd (cc f)

high_part : (n : ℤ) (max above : Option ℤ) (strictly : Bool) → strictly ≡ is_some above → (is_some max && is_some above) ≡ false
    → is_none_or (bound_json max above) (is_greatest strictly n) ≡ (is_none_or max (λ greatest. int_le n greatest) && is_none_or above (λ greatest. int_lt n greatest))
high_part n None None strictly e f = refl
high_part n (Some m) None strictly e f = ap (λ (x : Level Json). is_some_and (as_number x) (λ greatest. is_under strictly n greatest)) (json.outs-Int m) ∙ ap (λ b. is_under b n m) e ∙ sym (and-true (int_le n m))
high_part n None (Some m) strictly e f = ap (λ (x : Level Json). is_some_and (as_number x) (λ greatest. is_under strictly n greatest)) (json.outs-Int m) ∙ ap (λ b. is_under b n m) e
high_part n (Some m) (Some k) strictly e f = absurd (cc f)

four_bounds : (a b c d : Bool) → ((a && b) && ((c && d) && true)) ≡ (a && (b && (c && d)))
four_bounds true true c d = and-true (c && d)
four_bounds true false c d = refl
four_bounds false b c d = refl

pub rotated : (a b c : Bool) → (a && (b && (c && true))) ≡ (c && (a && b))
rotated true true true = refl
rotated true true false = refl
rotated true false true = refl
rotated true false false = refl
rotated false b true = refl
rotated false b false = refl

set_holds : (b : Bool) (rest : Bool) → (is_none_or (if_true b) (λ v. true) && rest) ≡ rest
set_holds true rest = refl
set_holds false rest = refl

module _ {X : Type 0} (smaller : X → Json → Bool) (next : Json → Bool) (value : Json) (n : ℤ) (schema : List Member) where
  format_part : (format : Option (List ℕ)) → is_integer schema ≡ true → is_none_or (option_map Text format) (row smaller next value (Json-F.Int n) schema Format) ≡ format_holds (Some (Single Integer)) format n
  format_part None e = refl
  format_part (Some name) e =
      ap (λ (b : Bool). not b || is_some_and (as_text (out-Json (Text name))) (λ name. in_format name n)) e
      ∙ ap (λ (x : Level Json). is_some_and (as_text x) (λ name. in_format name n)) (json.outs-Text name)

  -- each bound is marked as excluded where it is
  pub record AreMarked (bounds : NumberBounds) : Type 0 where
    pub low : is_set (codes "exclusiveMinimum") schema ≡ is_some bounds.exclusive_minimum
    pub high : is_set (codes "exclusiveMaximum") schema ≡ is_some bounds.exclusive_maximum
    pub low_once : (is_some bounds.minimum && is_some bounds.exclusive_minimum) ≡ false
    pub high_once : (is_some bounds.maximum && is_some bounds.exclusive_maximum) ≡ false

  bounds_part : (o : Option NumberBounds) → ((b : NumberBounds) → o ≡ Some b → AreMarked b) → rows smaller next value (Json-F.Int n) schema (option_map_or bound_entries o []) ≡ is_none_or o (number_holds n)
  unfolding is_annotation bound_or part_of
  bounds_part None h = refl
  bounds_part (Some b) h =
      let marked = h b refl in
      set_holds (is_some b.exclusive_minimum) _
      ∙ set_holds (is_some b.exclusive_maximum) _
      ∙ ap₂ (λ (x y : Bool). x && (y && true))
      (low_part n b.minimum b.exclusive_minimum (is_set (codes "exclusiveMinimum") schema) marked.low marked.low_once)
      (high_part n b.maximum b.exclusive_maximum (is_set (codes "exclusiveMaximum") schema) marked.high marked.high_once)
      ∙ four_bounds (is_none_or b.minimum (λ least. int_le least n)) (is_none_or b.exclusive_minimum (λ least. int_lt least n)) (is_none_or b.maximum (λ greatest. int_le n greatest)) (is_none_or b.exclusive_maximum (λ greatest. int_lt n greatest))

  pub number_part : (format : Option (List ℕ)) (o : Option NumberBounds) (values : Option (List Json)) → is_integer schema ≡ true → ((b : NumberBounds) → o ≡ Some b → AreMarked b)
      → rows smaller next value (Json-F.Int n) schema (number_entries format o values) ≡ (is_none_or values (list_any (same_json value)) && (format_holds (Some (Single Integer)) format n && is_none_or o (number_holds n)))
  unfolding is_annotation bound_or part_of
  number_part format o values e h =
      ap₂ (λ (x y : Bool). x && y) (format_part format e)
      (list_all-append _ (option_map_or bound_entries o []) (enum_entries values) ∙ ap₂ (λ (x y : Bool). x && (y && true)) (bounds_part o h) (enum_part value values))
      ∙ rotated (format_holds (Some (Single Integer)) format n) (is_none_or o (number_holds n)) (is_none_or values (list_any (same_json value)))
