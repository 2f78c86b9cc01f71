-- What the schemas of null, truth values, numbers and texts admit, and those that admit all or nothing.
use Rattle.std.proofs.Common.{◌≡◌, ℕ, ℤ, pos, Bool, true, false, ◌&&◌, ◌||◌, int_le, nat_le, length, List, [], ◌∷◌, ◌++◌, Option, Some, None, is_ok, codes, bytes_eq, ◌==◌, not, refl, sym, ◌∙◌, ap, arith}
use Rattle.std.proofs.Math.Bool.{and-true, or-true}
use Rattle.schema_values.specs.declared.json_value.Json.{Json, out-Json, Null, Text as Words, Int as Number, List as Items, Object}
use Rattle.schema_values.specs.declared.json_value.Json.TheOpen.{Json-F}
use Rattle.schema_values.specs.declared.json_value.Json.TheVariants as json
use Rattle.schema_values.specs.declared.json_value.Member.{Member}
use Rattle.schema_values.specs.Get.{first_named}
use Rattle.schema_values.specs.Member.{member}
use Rattle.openapi_values.specs.declared.keywords.Keyword.TheVariants.{OfType, Format, Minimum, Maximum}
use Rattle.openapi_values.specs.Keywords.{is_annotation, bound_or, part_of}
use Rattle.openapi_values.specs.Levels.{Level, is_null, is_true, as_text, as_number, as_list, as_object, has_type}
use Rattle.openapi_values.specs.Lookup.{is_set, is_integer, is_null_alone, is_null_form}
use Rattle.openapi_values.specs.Options.{is_some_and}
use Rattle.openapi_values.specs.Rows.{row, in_subset, in_format, is_under}
use Rattle.openapi_values.specs.JsonAdmits.{schema_admits}
use Rattle.descriptors.specs.declared.desc.IntKind.{IntKind}
use Rattle.descriptors.specs.declared.desc.IntKind.TheVariants.{I8, I16, I32, I64, U8, U16, U32, U64}
use Rattle.typed_values.specs.Bounds.{least_of, greatest_of, is_at_least, is_at_most, is_number_of, is_long_enough, is_short_enough, is_length_within}
use Rattle.typed_values.specs.Denotes.{Told, nought, truth, character, number, words, if_holds}
use Rattle.typed_values.specs.declared.fault.FaultKind.{FaultKind}
use Rattle.typed_values.specs.SchemaTable.{Remarks, annotations, of_type, if_number, if_text, if_count, format_of, least_shown, all_or_none, null_alone, one_character}
use Rattle.written_schemas.proofs.Notes.{IsNoNote, notes_passed, no_null_form, hold, noted_admits, all_admitted}

pub ok_holds : (b : Bool) (kind : FaultKind) (told : Told) → is_ok told ≡ true → is_ok (if_holds b kind told) ≡ b
ok_holds true kind told e = e
ok_holds false kind told e = refl

-- only a string is the form of null
pub no_form_of : (type : List ℕ) (ms : List Member) → bytes_eq type (codes "string") ≡ false → is_null_form (of_type type ms) ≡ false
no_form_of type ms other =
    ap (λ (x : Level Json). is_some_and (as_text x) (λ name. bytes_eq name (codes "string")) && is_some_and (first_named (codes "enum") (of_type type ms)) (λ s. is_some_and (as_list (out-Json s)) is_null_alone)) (json.outs-Text type)
    ∙ ap (λ (b : Bool). b && is_some_and (first_named (codes "enum") (of_type type ms)) (λ s. is_some_and (as_list (out-Json s)) is_null_alone)) other

-- a format's numbers are those of its kind
format_is : (kind : IntKind) (n : ℤ) → in_format (format_of kind) n ≡ (int_le (least_of kind) n && int_le n (greatest_of kind))
unfolding in_format
format_is I8 n = refl
format_is I16 n = refl
format_is I32 n = refl
format_is I64 n = refl
format_is U8 n = refl
format_is U16 n = refl
format_is U32 n = refl
format_is U64 n = refl

said_once : (a b h : Bool) → ((a && b) && (a && (h && true))) ≡ ((a && b) && (true && h))
said_once true true true = refl
said_once true true false = refl
said_once true false h = refl
said_once false b h = refl

said_first : (m h x : Bool) → (x && (m && (h && true))) ≡ (x && (m && h))
said_first m h x = ap (λ (b : Bool). x && (m && b)) (and-true h)

-- the least number that is shown says no more than the kind
shown : (kind : IntKind) (min max : Option ℤ) (n : ℤ)
    → (in_format (format_of kind) n && (is_at_least (least_shown kind min) n && (is_at_most max n && true))) ≡ is_number_of kind min max n
shown kind min max n = ap (λ (b : Bool). b && (is_at_least (least_shown kind min) n && (is_at_most max n && true))) (format_is kind n) ∙ by_kind kind min
  where
    by_kind : (kind : IntKind) (min : Option ℤ) → ((int_le (least_of kind) n && int_le n (greatest_of kind)) && (is_at_least (least_shown kind min) n && (is_at_most max n && true))) ≡ is_number_of kind min max n
    by_kind kind (Some least) = said_first (int_le least n) (is_at_most max n) _
    by_kind I8 None = said_first true (is_at_most max n) _
    by_kind I16 None = said_first true (is_at_most max n) _
    by_kind I32 None = said_first true (is_at_most max n) _
    by_kind I64 None = said_first true (is_at_most max n) _
    by_kind U8 None = said_once (int_le (pos 0) n) (int_le n (greatest_of U8)) (is_at_most max n)
    by_kind U16 None = said_once (int_le (pos 0) n) (int_le n (greatest_of U16)) (is_at_most max n)
    by_kind U32 None = said_once (int_le (pos 0) n) (int_le n (greatest_of U32)) (is_at_most max n)
    by_kind U64 None = said_once (int_le (pos 0) n) (int_le n (greatest_of U64)) (is_at_most max n)

module _ {X : Type 0} (smaller : X → Json → Bool) (next : Json → Bool) (value : Json) (j : Level X) (schema : List Member) where
  pub type_row : (name : List ℕ) → row smaller next value j schema OfType (Words name) ≡ has_type name j
  type_row name = ap (λ (x : Level Json). is_some_and (as_text x) (λ name. has_type name j)) (json.outs-Text name)

-- the bounds of a count
pub least_count_row : (c k : ℕ) → is_some_and (as_number (out-Json (Number (pos c)))) (λ least. int_le least (pos k)) ≡ nat_le c k
least_count_row c k = ap (λ (x : Level Json). is_some_and (as_number x) (λ least. int_le least (pos k))) (json.outs-Int (pos c))

pub greatest_count_row : (c k : ℕ) → is_some_and (as_number (out-Json (Number (pos c)))) (λ greatest. int_le (pos k) greatest) ≡ nat_le k c
greatest_count_row c k = ap (λ (x : Level Json). is_some_and (as_number x) (λ greatest. int_le (pos k) greatest)) (json.outs-Int (pos c))

-- the rows of a number
module _ {X : Type 0} (smaller : X → Json → Bool) (next : Json → Bool) (value : Json) (n : ℤ) (schema : List Member) where
  format_row : (name : List ℕ) → is_integer schema ≡ true → row smaller next value (Json-F.Int n) schema Format (Words name) ≡ in_format name n
  format_row name integer =
      ap (λ (b : Bool). not b || is_some_and (as_text (out-Json (Words name))) (λ name. in_format name n)) integer
      ∙ ap (λ (x : Level Json). is_some_and (as_text x) (λ name. in_format name n)) (json.outs-Text name)

  least_row : (least : ℤ) → is_set (codes "exclusiveMinimum") schema ≡ false → row smaller next value (Json-F.Int n) schema Minimum (Number least) ≡ int_le least n
  least_row least unset =
      ap (λ (b : Bool). is_some_and (as_number (out-Json (Number least))) (λ least. is_under b least n)) unset
      ∙ ap (λ (x : Level Json). is_some_and (as_number x) (λ least. int_le least n)) (json.outs-Int least)

  greatest_row : (greatest : ℤ) → is_set (codes "exclusiveMaximum") schema ≡ false → row smaller next value (Json-F.Int n) schema Maximum (Number greatest) ≡ int_le n greatest
  greatest_row greatest unset =
      ap (λ (b : Bool). is_some_and (as_number (out-Json (Number greatest))) (λ greatest. is_under b n greatest)) unset
      ∙ ap (λ (x : Level Json). is_some_and (as_number x) (λ greatest. int_le n greatest)) (json.outs-Int greatest)

abbrev pub bounds : Option ℤ → Option ℤ → List Member
bounds least greatest = if_number least (codes "minimum") (if_number greatest (codes "maximum") [])

abbrev pub numbers : List ℕ → Option ℤ → Option ℤ → List Member
numbers name least greatest = member (codes "format") (Words name) ∷ bounds least greatest

passed_bounds : (name : List ℕ) (least greatest : Option ℤ) → bytes_eq name (codes "minimum") ≡ false → bytes_eq name (codes "maximum") ≡ false → first_named name (bounds least greatest) ≡ None
passed_bounds name (Some least) (Some greatest) e f = rw (e, f) refl
passed_bounds name (Some least) None e f = rw e refl
passed_bounds name None (Some greatest) e f = rw f refl
passed_bounds name None None e f = refl

numbers_read : (name : List ℕ) (least greatest : Option ℤ) → in_subset (of_type (codes "integer") (numbers name least greatest)) ≡ true
unfolding is_annotation bound_or part_of
numbers_read name (Some least) (Some greatest) = refl
numbers_read name (Some least) None = refl
numbers_read name None (Some greatest) = refl
numbers_read name None None = refl

module _ {X : Type 0} (doc : Json) (smaller : X → Json → Bool) (next : Json → Bool) (value : Json) (n : Bool) (t : Option (List ℕ)) (r : Remarks) where
  numbers_hold : (i : ℤ) (schema : List Member) (name : List ℕ) (least greatest : Option ℤ)
      → is_integer schema ≡ true → is_set (codes "exclusiveMinimum") schema ≡ false → is_set (codes "exclusiveMaximum") schema ≡ false
      → hold doc smaller next value (Json-F.Int i) n t r schema (numbers name least greatest) ≡ (in_format name i && (is_at_least least i && (is_at_most greatest i && true)))
  unfolding is_annotation bound_or part_of
  numbers_hold i schema name (Some least) (Some greatest) e f g = rw (format_row smaller next value i schema name e, least_row smaller next value i schema least f, greatest_row smaller next value i schema greatest g) refl
  numbers_hold i schema name (Some least) None e f g = rw (format_row smaller next value i schema name e, least_row smaller next value i schema least f) refl
  numbers_hold i schema name None (Some greatest) e f g = rw (format_row smaller next value i schema name e, greatest_row smaller next value i schema greatest g) refl
  numbers_hold i schema name None None e f g = rw (format_row smaller next value i schema name e) refl

  whole_numbers : List ℕ → Option ℤ → Option ℤ → List Member
  whole_numbers name least greatest = annotations n t r ++ of_type (codes "integer") (numbers name least greatest)

  no_mark : (name : List ℕ) → IsNoNote name → bytes_eq name (codes "type") ≡ false → bytes_eq name (codes "format") ≡ false → bytes_eq name (codes "minimum") ≡ false → bytes_eq name (codes "maximum") ≡ false
      → (format : List ℕ) (least greatest : Option ℤ) → first_named name (whole_numbers format least greatest) ≡ None
  unfolding whole_numbers
  no_mark name h e f g k format least greatest = notes_passed n t r _ name h ∙ rw (e, f) (passed_bounds name least greatest g k)

  is_of_numbers : (name : List ℕ) (least greatest : Option ℤ) → is_integer (whole_numbers name least greatest) ≡ true
  unfolding whole_numbers
  is_of_numbers name least greatest =
      ap (λ (o : Option Json). is_some_and o (λ s. is_some_and (as_text (out-Json s)) (λ name. bytes_eq name (codes "integer")))) (notes_passed n t r _ (codes "type") (refl, refl, refl, refl))
      ∙ ap (λ (x : Level Json). is_some_and (as_text x) (λ name. bytes_eq name (codes "integer"))) (json.outs-Text (codes "integer"))

  pub number_admits : (j : Level X) (kind : IntKind) (min max : Option ℤ)
      → schema_admits doc smaller next value j (Object (annotations n t r ++ of_type (codes "integer") (numbers (format_of kind) (least_shown kind min) max))) ≡ (n && is_null j || is_ok (number kind min max j))
  unfolding is_annotation bound_or part_of whole_numbers
  number_admits j kind min max =
      let schema = whole_numbers (format_of kind) (least_shown kind min) max in
      noted_admits doc smaller next value j n t r _ _ false refl (passed_bounds (codes "nullable") (least_shown kind min) max refl refl) (numbers_read (format_of kind) (least_shown kind min) max) (no_form_of (codes "integer") (numbers (format_of kind) (least_shown kind min) max) refl)
      ∙ ap (λ (b : Bool). n && is_null j || b && hold doc smaller next value j n t r schema (numbers (format_of kind) (least_shown kind min) max)) (type_row smaller next value j schema (codes "integer"))
      ∙ ap (λ (b : Bool). n && is_null j || b) (by_form j)
    where
      by_form : (j : Level X) → (has_type (codes "integer") j && hold doc smaller next value j n t r (whole_numbers (format_of kind) (least_shown kind min) max) (numbers (format_of kind) (least_shown kind min) max)) ≡ is_ok (number kind min max j)
      by_form Json-F.Null = refl
      by_form (Json-F.Bool b) = refl
      by_form (Json-F.Int i) =
          numbers_hold i (whole_numbers (format_of kind) (least_shown kind min) max) (format_of kind) (least_shown kind min) max (is_of_numbers _ _ _)
          (ap (λ (o : Option Json). is_some_and o (λ s. is_true (out-Json s))) (no_mark (codes "exclusiveMinimum") (refl, refl, refl, refl) refl refl refl refl _ _ _))
          (ap (λ (o : Option Json). is_some_and o (λ s. is_true (out-Json s))) (no_mark (codes "exclusiveMaximum") (refl, refl, refl, refl) refl refl refl refl _ _ _))
          ∙ shown kind min max i
          ∙ sym (ok_holds (is_number_of kind min max i) _ _ refl)
      by_form (Json-F.Text w) = refl
      by_form (Json-F.List js) = refl
      by_form (Json-F.Object ms) = refl

  pub truth_admits : (j : Level X) → schema_admits doc smaller next value j (Object (annotations n t r ++ of_type (codes "boolean") [])) ≡ (n && is_null j || is_ok (truth j))
  unfolding is_annotation bound_or part_of
  truth_admits j =
      noted_admits doc smaller next value j n t r _ [] false refl refl refl (no_form_of (codes "boolean") [] refl)
      ∙ ap (λ (b : Bool). n && is_null j || (b && true)) (type_row smaller next value j (annotations n t r ++ of_type (codes "boolean") []) (codes "boolean"))
      ∙ ap (λ (b : Bool). n && is_null j || b) (by_form j)
    where
      by_form : (j : Level X) → (has_type (codes "boolean") j && true) ≡ is_ok (truth j)
      by_form Json-F.Null = refl
      by_form (Json-F.Bool b) = refl
      by_form (Json-F.Int i) = refl
      by_form (Json-F.Text w) = refl
      by_form (Json-F.List js) = refl
      by_form (Json-F.Object ms) = refl

abbrev pub lengths : Option ℕ → Option ℕ → List Member
lengths min max = if_count min (codes "minLength") (if_count max (codes "maxLength") [])

abbrev pub texts : Option (List ℕ) → Option ℕ → Option ℕ → List Member
texts format min max = if_text format (codes "format") (lengths min max)

texts_plain : (format : Option (List ℕ)) (min max : Option ℕ)
    → (first_named (codes "nullable") (texts format min max) ≡ None) × (first_named (codes "enum") (texts format min max) ≡ None) × (in_subset (texts format min max) ≡ true)
unfolding is_annotation bound_or part_of
texts_plain (Some f) (Some a) (Some b) = (refl, refl, refl)
texts_plain (Some f) (Some a) None = (refl, refl, refl)
texts_plain (Some f) None (Some b) = (refl, refl, refl)
texts_plain (Some f) None None = (refl, refl, refl)
texts_plain None (Some a) (Some b) = (refl, refl, refl)
texts_plain None (Some a) None = (refl, refl, refl)
texts_plain None None (Some b) = (refl, refl, refl)
texts_plain None None None = (refl, refl, refl)

pub both_bounds : (a b : Bool) → (a && (b && true)) ≡ (a && b)
both_bounds a b = ap (λ (c : Bool). a && c) (and-true b)

one_length : (k : ℕ) → (nat_le 1 k && nat_le k 1) ≡ (k == 1)
one_length k = grind arith

-- a text of one character has a length from 1 to 1
one_is : {X : Type 0} (j : Level X) → is_ok (words (Some 1) (Some 1) j) ≡ is_ok (character j)
one_is Json-F.Null = refl
one_is (Json-F.Bool b) = refl
one_is (Json-F.Int i) = refl
one_is (Json-F.Text w) = ok_holds (is_length_within (Some 1) (Some 1) (length w)) _ _ refl ∙ one_length (length w) ∙ sym (ok_holds (length w == 1) _ _ refl)
one_is (Json-F.List js) = refl
one_is (Json-F.Object ms) = refl

null_form : is_null_form null_alone.members ≡ true
null_form =
    ap (λ (x : Level Json). is_some_and (as_text x) (λ name. bytes_eq name (codes "string")) && is_some_and (as_list (out-Json (Items (Null ∷ [])))) is_null_alone) (json.outs-Text (codes "string"))
    ∙ ap (λ (x : Level Json). is_some_and (as_list x) is_null_alone) (json.outs-List (Null ∷ []))
    ∙ ap is_null json.outs-Null

module _ {X : Type 0} (doc : Json) (smaller : X → Json → Bool) (next : Json → Bool) (value : Json) (n : Bool) (t : Option (List ℕ)) (r : Remarks) where
  lengths_hold : (w : List ℕ) (schema : List Member) (min max : Option ℕ)
      → hold doc smaller next value (Json-F.Text w) n t r schema (lengths min max) ≡ (is_long_enough min (length w) && (is_short_enough max (length w) && true))
  unfolding is_annotation bound_or part_of
  lengths_hold w schema (Some a) (Some b) = rw (least_count_row a (length w), greatest_count_row b (length w)) refl
  lengths_hold w schema (Some a) None = rw (least_count_row a (length w)) refl
  lengths_hold w schema None (Some b) = rw (greatest_count_row b (length w)) refl
  lengths_hold w schema None None = refl

  texts_hold : (w : List ℕ) (schema : List Member) (format : Option (List ℕ)) (min max : Option ℕ)
      → hold doc smaller next value (Json-F.Text w) n t r schema (texts format min max) ≡ hold doc smaller next value (Json-F.Text w) n t r schema (lengths min max)
  unfolding is_annotation bound_or part_of
  texts_hold w schema (Some format) min max = refl
  texts_hold w schema None min max = refl

  pub words_admit : (j : Level X) (format : Option (List ℕ)) (min max : Option ℕ)
      → schema_admits doc smaller next value j (Object (annotations n t r ++ of_type (codes "string") (texts format min max))) ≡ (n && is_null j || is_ok (words min max j))
  unfolding is_annotation bound_or part_of
  words_admit j format min max =
      let schema = annotations n t r ++ of_type (codes "string") (texts format min max) in
      let (none, no_values, read) = texts_plain format min max in
      noted_admits doc smaller next value j n t r _ _ false refl none read (no_null_form (of_type (codes "string") (texts format min max)) no_values)
      ∙ ap (λ (b : Bool). n && is_null j || b && hold doc smaller next value j n t r schema (texts format min max)) (type_row smaller next value j schema (codes "string"))
      ∙ ap (λ (b : Bool). n && is_null j || b) (by_form schema j)
    where
      by_form : (schema : List Member) (j : Level X) → (has_type (codes "string") j && hold doc smaller next value j n t r schema (texts format min max)) ≡ is_ok (words min max j)
      by_form schema Json-F.Null = refl
      by_form schema (Json-F.Bool b) = refl
      by_form schema (Json-F.Int i) = refl
      by_form schema (Json-F.Text w) =
          texts_hold w schema format min max ∙ lengths_hold w schema min max ∙ both_bounds (is_long_enough min (length w)) (is_short_enough max (length w)) ∙ sym (ok_holds (is_length_within min max (length w)) _ _ refl)
      by_form schema (Json-F.List js) = refl
      by_form schema (Json-F.Object ms) = refl

  pub character_admits : (j : Level X) → schema_admits doc smaller next value j (Object (annotations n t r ++ one_character.members)) ≡ (n && is_null j || is_ok (character j))
  character_admits j = words_admit j None (Some 1) (Some 1) ∙ ap (λ (b : Bool). n && is_null j || b) (one_is j)

  pub null_admits : (j : Level X) → schema_admits doc smaller next value j (Object (annotations n t r ++ null_alone.members)) ≡ (n && is_null j || is_ok (nought j))
  unfolding is_annotation bound_or part_of
  null_admits j =
      noted_admits doc smaller next value j n t r _ _ true refl refl refl null_form
      ∙ ap (λ (b : Bool). n && is_null j || b) (by_form j)
    where
      by_form : (j : Level X) → is_null j ≡ is_ok (nought j)
      by_form Json-F.Null = refl
      by_form (Json-F.Bool b) = refl
      by_form (Json-F.Int i) = refl
      by_form (Json-F.Text w) = refl
      by_form (Json-F.List js) = refl
      by_form (Json-F.Object ms) = refl

  pub any_admits : (j : Level X) → schema_admits doc smaller next value j (Object (annotations n t r ++ (all_or_none true).members)) ≡ (n && is_null j || true)
  any_admits j = all_admitted doc smaller next value j n t r ∙ sym (or-true (n && is_null j))

  pub never_admits : (j : Level X) → schema_admits doc smaller next value j (Object (annotations n t r ++ (all_or_none false).members)) ≡ (n && is_null j || false)
  unfolding is_annotation bound_or part_of
  never_admits j =
      noted_admits doc smaller next value j n t r (member (codes "not") (Object [])) [] false refl refl
      (ap (λ (x : Level Json). is_some_and (as_object x) (λ ms. length ms == 0) && true) (json.outs-Object [])) refl
