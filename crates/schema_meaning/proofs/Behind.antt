-- Entries that stand behind annotations: those that are read whatever value they have, and subschemas, which are read where `all_of` is.
use Rattle.std.proofs.Common.{◌≡◌, ℕ, Bool, true, false, ◌&&◌, not, List, [], ◌∷◌, ◌++◌, map, length, ◌==◌, Option, Some, None, option_map, unwrap_or, cond, bytes_eq, nat_le, refl, sym, subst, ◌∙◌, ap, ap₂, arith, inl, inr}
use Rattle.std.proofs.Math.Bool.{and-true}
use Rattle.std.specs.List.{AllByRecursion}
use Rattle.std.specs.Option.{option_or}
use Rattle.std.specs.Prelude.{codes, IfSome}
use Rattle.std.proofs.lemmas.List.Folds.{list_all-append}
use Rattle.schema_values.specs.declared.json_value.Json.{Json, Object}
use Rattle.schema_values.specs.declared.json_value.Json.TheVariants as json
use Rattle.schema_values.specs.declared.schema.Schema.{Schema}
use Rattle.schema_values.specs.declared.schema.Subschemas.{Subschemas}
use Rattle.schema_values.specs.Parts.{Parts}
use Rattle.openapi_values.specs.Keywords.{keyword_of, is_annotation, bound_or, part_of}
use Rattle.openapi_values.specs.Levels.{Level, as_list, as_object}
use Rattle.openapi_values.specs.Objects.{Entry}
use Rattle.openapi_values.specs.Options.{is_none_or, is_some_and}
use Rattle.openapi_values.specs.Rows.{is_read}
use Rattle.openapi_values.specs.SchemaJson.{Written, untitled, schemas_json, object_step, schema_written, subschemas_written}
use Rattle.openapi_values.proofs.CallerLemmas.{subschemas-are}
use Rattle.schema_meaning.specs.Accepted.{IsEmpty, AreAtMostOne, SubschemasAreKept}
use Rattle.schema_meaning.specs.Asked.{all_of_is_read}
use Rattle.schema_meaning.proofs.Entries.{each_entry, value_named, none-append}
use Rattle.schema_meaning.proofs.Noted.{AreBehind}
use Rattle.schema_meaning.proofs.WrittenLevels.{json_of, truth-is, by_parts-is, level_of}

pub both_behind : (es fs : List Entry) {a b : Bool} → AreBehind es a → AreBehind fs b → AreBehind (es ++ fs) (a && b)
both_behind es fs a b = record {
  read = list_all-append _ es fs ∙ ap₂ (λ (x y : Bool). x && y) a.read b.read;
  no_reference = list_all-append _ es fs ∙ ap₂ (λ (x y : Bool). x && y) a.no_reference b.no_reference;
  no_null = none-append (codes "nullable") es fs a.no_null ∙ b.no_null;
}

-- a name whose entry is read whatever its value is
abbrev pub IsPlain : List ℕ → Type 0
IsPlain name = ((v : Json) → is_read (keyword_of name) v ≡ true) × (bytes_eq name (codes "$ref") ≡ false) × (bytes_eq (codes "nullable") name ≡ false)

abbrev pub ArePlain : List Entry → Type 0
ArePlain = AllByRecursion (λ e. IsPlain e.0)

pub both_plain : (es fs : List Entry) → ArePlain es → ArePlain fs → ArePlain (es ++ fs)
both_plain [] fs a b = b
both_plain (e ∷ es) fs a b = (a.0, both_plain es fs a.1 b)

each_of : (q : List ℕ → Json → Bool) (es : List Entry) → ((e : Entry) → IsPlain e.0 → (v : Json) → q e.0 v ≡ true) → ArePlain es → each_entry q es ≡ true
each_of q [] h a = refl
each_of q ((name, None) ∷ es) h a = each_of q es h a.1
each_of q ((name, Some v) ∷ es) h a = ap₂ (λ (x y : Bool). x && y) (h (name, Some v) a.0 v) (each_of q es h a.1)

none_plain : (es : List Entry) → ArePlain es → value_named (codes "nullable") es ≡ None
none_plain [] a = refl
none_plain (e ∷ es) a = ap (λ b. cond b (option_or e.1 (value_named (codes "nullable") es)) (value_named (codes "nullable") es)) a.0.2 ∙ none_plain es a.1

pub plain_behind : (es : List Entry) → ArePlain es → AreBehind es true
plain_behind es a = record {
  read = each_of (λ name v. is_read (keyword_of name) v) es (λ e p v. p.0 v) a;
  no_reference = each_of (λ name v. not (bytes_eq name (codes "$ref"))) es (λ e p v. ap not p.1) a;
  no_null = none_plain es a;
}

-- ---- subschemas

abbrev pub subschema_entries : Option Subschemas → List Entry
subschema_entries o = unwrap_or (option_map subschemas_written o) []

-- the empty schema is written without any member
pub empty-is : (s : Schema) → IsEmpty s → json_of s ≡ Object []
empty-is s (inl e) = ap (λ (w : Written). w.under None) (truth-is s true e)
empty-is s (inr (object, e, f)) = by_parts-is s object None e ∙ ap (λ (p : Parts). object_step (level_of p) None) f

pub always : {A : Type 0} (o : Option A) → is_none_or o (λ v. true) ≡ true
always None = refl
always (Some v) = refl

-- the first of four decides
by_first : (a b c d first : Bool) → a ≡ first → b ≡ true → c ≡ true → d ≡ true → (a && (b && (c && (d && true)))) ≡ first
by_first a b c d first e f g h = rw (f, g, h) (and-true a ∙ e)

all_of_read : (o : Option (List Schema)) → IfSome o AreAtMostOne → is_none_or (schemas_json (option_map (map schema_written) o)) (λ v. is_read (keyword_of (codes "allOf")) v) ≡ is_none_or o (λ ss. nat_le 1 (length ss))
unfolding is_annotation bound_or part_of
all_of_read None h = refl
all_of_read (Some []) h = ap (λ (x : Level Json). is_some_and (as_list x) (λ xs. length xs == 1)) (json.outs-List [])
all_of_read (Some (s ∷ [])) h = ap (λ (x : Level Json). is_some_and (as_list x) (λ xs. length xs == 1)) (json.outs-List (json_of s ∷ []))
all_of_read (Some (s ∷ t ∷ ss)) h = absurd (omega (arith, h))

empty_read : (o : Option Schema) → IfSome o IsEmpty → is_none_or (option_map untitled (option_map schema_written o)) (λ v. is_read (keyword_of (codes "not")) v) ≡ true
unfolding is_annotation bound_or part_of
empty_read None h = refl
empty_read (Some s) h = ap (λ v. is_read (keyword_of (codes "not")) v) (empty-is s h) ∙ ap (λ (x : Level Json). is_some_and (as_object x) (λ ms. length ms == 0)) (json.outs-Object [])

pub subschemas_behind : (o : Option Subschemas) → IfSome o SubschemasAreKept → AreBehind (subschema_entries o) (is_none_or o all_of_is_read)
unfolding is_annotation bound_or part_of
subschemas_behind None h = record { read = refl; no_reference = refl; no_null = refl }
subschemas_behind (Some s) a =
    subst (λ (es : List Entry). AreBehind es (all_of_is_read s)) (sym (subschemas-are s)) (record {
      read = by_first _ _ _ _ _ (all_of_read s.all_of a.at_most_one_all) (always (schemas_json (option_map (map schema_written) s.any_of))) (always (schemas_json (option_map (map schema_written) s.one_of))) (empty_read s.not a.not_empty);
      no_reference = by_first _ _ _ _ _ (always (schemas_json (option_map (map schema_written) s.all_of))) (always (schemas_json (option_map (map schema_written) s.any_of))) (always (schemas_json (option_map (map schema_written) s.one_of))) (always (option_map untitled (option_map schema_written s.not)));
      no_null = refl;
    })

-- no other name stands among them
pub no_subschema : (name : List ℕ) (o : Option Subschemas) → bytes_eq name (codes "allOf") ≡ false → bytes_eq name (codes "anyOf") ≡ false → bytes_eq name (codes "oneOf") ≡ false → bytes_eq name (codes "not") ≡ false → value_named name (subschema_entries o) ≡ None
no_subschema name None e f g h = refl
no_subschema name (Some s) e f g h = ap (value_named name) (subschemas-are s) ∙ rw (e, f, g, h) refl
