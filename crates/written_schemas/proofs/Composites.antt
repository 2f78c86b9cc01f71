-- What the schemas of lists, structs, choices and references admit, by what they say of smaller values and of other schemas.
use Rattle.std.proofs.Common.{◌≡◌, ℕ, Bool, true, false, ◌&&◌, ◌||◌, length, List, [], ◌∷◌, ◌++◌, Option, Some, None, option_and_then, ◌==◌, count_by, codes, refl, ◌∙◌, ap}
use Rattle.std.specs.List.{list_all, list_any}
use Rattle.std.specs.Option.{option_map_or}
use Rattle.schema_values.specs.declared.json_value.Json.{Json, Text as Words, List as Items, Object}
use Rattle.schema_values.specs.declared.json_value.Json.TheOpen.{Json-F}
use Rattle.schema_values.specs.declared.json_value.Json.TheVariants as json
use Rattle.schema_values.specs.declared.json_value.Member.{Member}
use Rattle.schema_values.specs.Get.{first_named}
use Rattle.schema_values.specs.Member.{member}
use Rattle.request_words.specs.Prefixes.{after}
use Rattle.openapi_values.specs.Keywords.{is_annotation, bound_or, part_of}
use Rattle.openapi_values.specs.Levels.{Level, is_null, as_text, as_list, as_object, has_type}
use Rattle.openapi_values.specs.Lookup.{definition}
use Rattle.openapi_values.specs.Options.{is_some_and}
use Rattle.openapi_values.specs.Rows.{in_subset}
use Rattle.openapi_values.specs.JsonAdmits.{members_admit, object_admits, schema_admits}
use Rattle.request_words.proofs.CallerLemmas.{after_prefix}
use Rattle.typed_values.specs.Bounds.{is_long_enough, is_short_enough, is_length_within}
use Rattle.typed_values.specs.SchemaTable.{Remarks, annotations, of_type, if_count}
use Rattle.written_schemas.proofs.Notes.{hold, noted_admits}
use Rattle.written_schemas.proofs.Scalars.{no_form_of, type_row, least_count_row, greatest_count_row, both_bounds}

abbrev pub counts : Option ℕ → Option ℕ → List Member
counts min max = if_count min (codes "minItems") (if_count max (codes "maxItems") [])

counts_plain : (item : Json) (min max : Option ℕ) → (first_named (codes "nullable") (member (codes "items") item ∷ counts min max) ≡ None) × (in_subset (of_type (codes "array") (member (codes "items") item ∷ counts min max)) ≡ true)
unfolding is_annotation bound_or part_of
counts_plain item (Some a) (Some b) = (refl, refl)
counts_plain item (Some a) None = (refl, refl)
counts_plain item None (Some b) = (refl, refl)
counts_plain item None None = (refl, refl)

-- a list of so many items of which each passes a test
abbrev pub is_list_of : {X : Type 0} → (X → Bool) → Option ℕ → Option ℕ → Level X → Bool
is_list_of p min max (Json-F.List xs) = list_all p xs && is_length_within min max (length xs)
is_list_of p min max _ = false

module _ {X : Type 0} (doc : Json) (smaller : X → Json → Bool) (next : Json → Bool) (value : Json) (n : Bool) (t : Option (List ℕ)) (r : Remarks) where
  counts_hold : (xs : List X) (schema : List Member) (min max : Option ℕ)
      → hold doc smaller next value (Json-F.List xs) n t r schema (counts min max) ≡ (is_long_enough min (length xs) && (is_short_enough max (length xs) && true))
  unfolding is_annotation bound_or part_of
  counts_hold xs schema (Some a) (Some b) = rw (least_count_row a (length xs), greatest_count_row b (length xs)) refl
  counts_hold xs schema (Some a) None = rw (least_count_row a (length xs)) refl
  counts_hold xs schema None (Some b) = rw (greatest_count_row b (length xs)) refl
  counts_hold xs schema None None = refl

  pub list_admits : (j : Level X) (item : Json) (min max : Option ℕ)
      → schema_admits doc smaller next value j (Object (annotations n t r ++ of_type (codes "array") (member (codes "items") item ∷ counts min max))) ≡ (n && is_null j || is_list_of (λ x. smaller x item) min max j)
  unfolding is_annotation bound_or part_of
  list_admits j item min max =
      let schema = annotations n t r ++ of_type (codes "array") (member (codes "items") item ∷ counts min max) in
      let (none, read) = counts_plain item min max in
      noted_admits doc smaller next value j n t r _ _ false refl none read (no_form_of (codes "array") (member (codes "items") item ∷ counts min max) refl)
      ∙ ap (λ (b : Bool). n && is_null j || b && hold doc smaller next value j n t r schema (member (codes "items") item ∷ counts min max)) (type_row smaller next value j schema (codes "array"))
      ∙ ap (λ (b : Bool). n && is_null j || b) (by_form schema j)
    where
      by_form : (schema : List Member) (j : Level X) → (has_type (codes "array") j && hold doc smaller next value j n t r schema (member (codes "items") item ∷ counts min max)) ≡ is_list_of (λ x. smaller x item) min max j
      by_form schema Json-F.Null = refl
      by_form schema (Json-F.Bool b) = refl
      by_form schema (Json-F.Int i) = refl
      by_form schema (Json-F.Text w) = refl
      by_form schema (Json-F.List xs) =
          ap (λ (b : Bool). list_all (λ x. smaller x item) xs && b) (counts_hold xs schema min max ∙ both_bounds (is_long_enough min (length xs)) (is_short_enough max (length xs)))
      by_form schema (Json-F.Object ms) = refl

  pub choice_admits : (j : Level X) (ss : List Json) → schema_admits doc smaller next value j (Object (annotations n t r ++ member (codes "anyOf") (Items ss) ∷ [])) ≡ (n && is_null j || (list_any next ss && true))
  unfolding is_annotation bound_or part_of
  choice_admits j ss =
      noted_admits doc smaller next value j n t r (member (codes "anyOf") (Items ss)) [] false refl refl refl refl
      ∙ ap (λ (x : Level Json). n && is_null j || (is_some_and (as_list x) (list_any next) && true)) (json.outs-List ss)

  -- exactly one of some schemas
  pub one_admitted : (j : Level X) (ss : List Json) → schema_admits doc smaller next value j (Object (annotations n t r ++ member (codes "oneOf") (Items ss) ∷ [])) ≡ (n && is_null j || ((count_by next ss == 1) && true))
  unfolding is_annotation bound_or part_of
  one_admitted j ss =
      noted_admits doc smaller next value j n t r (member (codes "oneOf") (Items ss)) [] false refl refl refl refl
      ∙ ap (λ (x : Level Json). n && is_null j || (is_some_and (as_list x) (λ ss. count_by next ss == 1) && true)) (json.outs-List ss)

  -- an `allOf` of one schema
  pub wrapped_admits : (j : Level X) (s : Json) → schema_admits doc smaller next value j (Object (annotations n t r ++ member (codes "allOf") (Items (s ∷ [])) ∷ [])) ≡ (n && is_null j || ((next s && true) && true))
  unfolding is_annotation bound_or part_of
  wrapped_admits j s =
      noted_admits doc smaller next value j n t r (member (codes "allOf") (Items (s ∷ []))) [] false refl refl (ap (λ (x : Level Json). is_some_and (as_list x) (λ xs. length xs == 1) && true) (json.outs-List (s ∷ []))) refl
      ∙ ap (λ (x : Level Json). n && is_null j || (is_some_and (as_list x) (list_all next) && true)) (json.outs-List (s ∷ []))

-- a reference alone
pub reference_admits : {X : Type 0} (doc : Json) (smaller : X → Json → Bool) (next : Json → Bool) (value : Json) (j : Level X) (name : List ℕ) → schema_admits doc smaller next value j (Object (member (codes "$ref") (Words (codes "#/components/schemas/" ++ name)) ∷ [])) ≡ is_some_and (definition doc name) next
reference_admits doc smaller next value j name =
    let schema = member (codes "$ref") (Words (codes "#/components/schemas/" ++ name)) ∷ [] in
    ap (λ (x : Level Json). is_some_and (as_object x) (members_admit doc smaller next value j)) (json.outs-Object schema)
    ∙ ap (λ (o : Option (List ℕ)). option_map_or (λ name. is_some_and (definition doc name) next) o (object_admits smaller next value j schema)) (ap (λ (x : Level Json). option_and_then (after (codes "#/components/schemas/")) (as_text x)) (json.outs-Text (codes "#/components/schemas/" ++ name)) ∙ after_prefix (codes "#/components/schemas/") name)
