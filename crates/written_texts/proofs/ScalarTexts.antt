-- The schemas of truth values, numbers, texts and characters admit exactly the texts that denote something.
use Rattle.std.proofs.Common.{◌≡◌, ℕ, ℤ, ◌+◌, Bool, true, false, ◌&&◌, ◌||◌, not, length, List, [], ◌++◌, Option, Some, None, is_ok, is_some, cond, codes, bytes_eq, ◌==◌, refl, sym, ◌∙◌, ap}
use Rattle.std.specs.declared.result.Result.TheVariants.{Ok}
use Rattle.schema_values.specs.declared.json_value.Json.{Json, out-Json, Text as Words, Int as Number, Object}
use Rattle.schema_values.specs.declared.json_value.Json.TheOpen.{Json-F}
use Rattle.schema_values.specs.declared.json_value.Json.TheVariants as json
use Rattle.schema_values.specs.declared.json_value.Member.{Member}
use Rattle.schema_values.specs.Get.{first_named}
use Rattle.request_words.specs.Numbers.{has_minus, number_of}
use Rattle.request_words.specs.Prefixes.{after}
use Rattle.openapi_values.specs.JsonAdmits.{schema_admits, admits_within}
use Rattle.openapi_values.specs.Levels.{Level, as_text}
use Rattle.openapi_values.specs.Options.{is_some_and}
use Rattle.openapi_values.specs.Room.{room, values}
use Rattle.openapi_values.specs.Smaller.{smaller_admits}
use Rattle.openapi_values.specs.TextAdmits.{json_admitted, text_step, is_unsigned}
use Rattle.openapi_values.proofs.CallerLemmas.{admits-suc}
use Rattle.descriptors.specs.declared.desc.IntKind.{IntKind}
use Rattle.descriptors.specs.declared.desc.IntKind.TheVariants.{I8, I16, I32, I64, U8, U16, U32, U64}
use Rattle.descriptors.specs.declared.tree.Tree.{Bool as Truth}
use Rattle.typed_values.specs.declared.fault.FaultKind.{FaultKind}
use Rattle.typed_values.specs.Bounds.{is_number_of}
use Rattle.typed_values.specs.Denotes.{refused}
use Rattle.typed_values.specs.SchemaTable.{Remarks, annotations, of_type, format_of, least_shown, one_character}
use Rattle.scalar_texts.specs.Texts.{truth_of_text, has_no_sign, number_or_fault, number_of_text, words_of_text, character_of_text}
use Rattle.written_schemas.proofs.CallerLemmas.{notes_passed, numbers, bounds, texts, lengths, number_admits, words_admit, character_admits, ok_holds}
use Rattle.written_texts.proofs.SchemaSteps.{truth_step, number_step, string_step}

-- a value beside null that is none
pub beside_null : (n b c : Bool) → c ≡ b → (n && false || c) ≡ b
beside_null true b c e = e
beside_null false b c e = e

-- what the document's own meaning says of a value at its first step
module _ (doc : Json) (ms : List Member) (value : Json) (level : Level Json) (is : out-Json value ≡ level) where
  pub first_step : (b : Bool)
      → ((next : Json → Bool) → schema_admits doc (smaller_admits doc (room doc (Object ms))) next value level (Object ms) ≡ b)
      → json_admitted doc (Object ms) value ≡ b
  first_step b h =
      let steps = values doc + values (Object ms) in
      let next : Json → Bool = admits_within doc (room doc (Object ms)) value steps in
      admits-suc doc (room doc (Object ms)) value steps (Object ms)
      ∙ ap (λ (x : Level Json). schema_admits doc (smaller_admits doc (room doc (Object ms))) next value x (Object ms)) is
      ∙ h next

passed_bounds : (name : List ℕ) (least greatest : Option ℤ) → bytes_eq name (codes "minimum") ≡ false → bytes_eq name (codes "maximum") ≡ false → first_named name (bounds least greatest) ≡ None
passed_bounds name (Some least) (Some greatest) e f = rw (e, f) refl
passed_bounds name (Some least) None e f = rw e refl
passed_bounds name None (Some greatest) e f = rw f refl
passed_bounds name None None e f = refl

passed_texts : (name : List ℕ) (format : Option (List ℕ)) (min max : Option ℕ) → bytes_eq name (codes "format") ≡ false → bytes_eq name (codes "minLength") ≡ false → bytes_eq name (codes "maxLength") ≡ false
    → first_named name (texts format min max) ≡ None
passed_texts name (Some f) (Some a) (Some b) e g h = rw (e, g, h) refl
passed_texts name (Some f) (Some a) None e g h = rw (e, g) refl
passed_texts name (Some f) None (Some b) e g h = rw (e, h) refl
passed_texts name (Some f) None None e g h = rw e refl
passed_texts name None (Some a) (Some b) e g h = rw (g, h) refl
passed_texts name None (Some a) None e g h = rw g refl
passed_texts name None None (Some b) e g h = rw h refl
passed_texts name None None None e g h = refl

unsigned_formats : (kind : IntKind) → is_some (after (codes "uint") (format_of kind)) ≡ has_no_sign kind
unsigned_formats I8 = refl
unsigned_formats I16 = refl
unsigned_formats I32 = refl
unsigned_formats I64 = refl
unsigned_formats U8 = refl
unsigned_formats U16 = refl
unsigned_formats U32 = refl
unsigned_formats U64 = refl

ok_truth : (text : List ℕ) → (bytes_eq (codes "true") text || bytes_eq (codes "false") text) ≡ is_ok (truth_of_text text)
ok_truth text = by_words (bytes_eq (codes "true") text) (bytes_eq (codes "false") text) _
  where
    by_words : (a b : Bool) (kind : FaultKind) → (a || b) ≡ is_ok (cond a (Ok (Truth true)) (cond b (Ok (Truth false)) (refused kind)))
    by_words true b kind = refl
    by_words false true kind = refl
    by_words false false kind = refl

module _ (doc : Json) (next : Json → Bool) (text : List ℕ) (n : Bool) (t : Option (List ℕ)) (r : Remarks) where
  pub truth_text : text_step doc next text (Object (annotations n t r ++ of_type (codes "boolean") [])) ≡ is_ok (truth_of_text text)
  truth_text = truth_step doc next text n t r [] refl refl ∙ ok_truth text

  module _ (kind : IntKind) (min max : Option ℤ) where
    abbrev ms : List Member
    ms = numbers (format_of kind) (least_shown kind min) max

    abbrev schema : List Member
    schema = annotations n t r ++ of_type (codes "integer") ms

    unsigned_is : is_unsigned schema ≡ has_no_sign kind
    unsigned_is =
        ap (λ (o : Option Json). is_some_and o (λ s. is_some_and (as_text (out-Json s)) (λ name. is_some (after (codes "uint") name)))) (notes_passed n t r (of_type (codes "integer") ms) (codes "format") (refl, refl, refl, refl))
        ∙ ap (λ (x : Level Json). is_some_and (as_text x) (λ name. is_some (after (codes "uint") name))) (json.outs-Text (format_of kind))
        ∙ unsigned_formats kind

    number_admitted : (i : ℤ) → json_admitted doc (Object schema) (Number i) ≡ is_number_of kind min max i
    number_admitted i =
        first_step doc schema (Number i) (Json-F.Int i) (json.outs-Int i) (is_number_of kind min max i)
        (λ next. number_admits doc (smaller_admits doc (room doc (Object schema))) next (Number i) n t r (Json-F.Int i) kind min max ∙ beside_null n _ _ (ok_holds (is_number_of kind min max i) _ _ refl))

    ok_number : (minus : Bool) (o : Option ℤ) → (not minus && is_some_and o (λ i. json_admitted doc (Object schema) (Number i))) ≡ is_ok (number_or_fault kind min max text (cond minus None o))
    ok_number true o = refl
    ok_number false None = refl
    ok_number false (Some i) = number_admitted i ∙ sym (ok_holds (is_number_of kind min max i) _ _ refl)

    pub number_text : text_step doc next text (Object schema) ≡ is_ok (number_of_text kind min max text)
    number_text =
        number_step doc next text n t r ms (passed_bounds (codes "allOf") (least_shown kind min) max refl refl) (passed_bounds (codes "oneOf") (least_shown kind min) max refl refl)
        ∙ ap (λ (b : Bool). not (b && has_minus text) && is_some_and (number_of text) (λ i. json_admitted doc (Object schema) (Number i))) unsigned_is
        ∙ ok_number (has_no_sign kind && has_minus text) (number_of text)

  pub words_text : (format : Option (List ℕ)) (min max : Option ℕ) → text_step doc next text (Object (annotations n t r ++ of_type (codes "string") (texts format min max))) ≡ is_ok (words_of_text min max text)
  words_text format min max =
      let schema = annotations n t r ++ of_type (codes "string") (texts format min max) in
      string_step doc next text n t r (texts format min max) (passed_texts (codes "allOf") format min max refl refl refl) (passed_texts (codes "oneOf") format min max refl refl refl)
      ∙ first_step doc schema (Words text) (Json-F.Text text) (json.outs-Text text) (is_ok (words_of_text min max text))
      (λ next. words_admit doc (smaller_admits doc (room doc (Object schema))) next (Words text) n t r (Json-F.Text text) format min max ∙ beside_null n _ _ refl)

  pub character_text : text_step doc next text (Object (annotations n t r ++ one_character.members)) ≡ is_ok (character_of_text text)
  character_text =
      let schema = annotations n t r ++ one_character.members in
      string_step doc next text n t r (lengths (Some 1) (Some 1)) refl refl
      ∙ first_step doc schema (Words text) (Json-F.Text text) (json.outs-Text text) (is_ok (character_of_text text))
      (λ next. character_admits doc (smaller_admits doc (room doc (Object schema))) next (Words text) n t r (Json-F.Text text) ∙ beside_null n _ _ (ok_holds (length text == 1) _ _ refl ∙ sym (ok_holds (length text == 1) _ _ refl)))
