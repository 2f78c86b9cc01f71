-- What written subschemas ask of a value.
use Rattle.std.proofs.Common.{◌≡◌, ℕ, Bool, true, false, ◌&&◌, ◌||◌, not, List, [], ◌∷◌, ◌++◌, map, Option, Some, None, option_map, unwrap_or, count_by, cond, ◌==◌, refl, sym, subst, ◌∙◌, ap, ap₂, arith}
use Rattle.std.specs.List.{list_all, list_any}
use Rattle.std.specs.Prelude.{Contains}
use Rattle.std.proofs.Math.Bool.{and-true}
use Rattle.std.proofs.lemmas.List.Folds.{list_all-append}
use Rattle.std.proofs.lemmas.List.Sums.{sum_by-cons}
use Rattle.schema_values.specs.declared.json_value.Json.{Json}
use Rattle.schema_values.specs.declared.json_value.Json.TheVariants as json
use Rattle.schema_values.specs.declared.json_value.Member.{Member}
use Rattle.schema_values.specs.declared.schema.Schema.{Schema}
use Rattle.schema_values.specs.declared.schema.Subschemas.{Subschemas}
use Rattle.openapi_values.specs.Keywords.{keyword_of, is_annotation, bound_or, part_of}
use Rattle.openapi_values.specs.Levels.{Level, as_list}
use Rattle.openapi_values.specs.Objects.{Entry}
use Rattle.openapi_values.specs.Options.{is_none_or, is_some_and}
use Rattle.openapi_values.specs.Rows.{row, every_admits, some_admits, one_admits}
use Rattle.openapi_values.specs.SchemaJson.{untitled, schemas_json, schema_written, subschemas_written}
use Rattle.openapi_values.proofs.CallerLemmas.{subschemas-are}
use Rattle.schema_meaning.specs.Asked.{subschemas_hold}
use Rattle.schema_meaning.specs.Reached.{combined_schemas, if_any}
use Rattle.schema_meaning.proofs.Among.{among_left, among_right}
use Rattle.schema_values.proofs.CallerLemmas.{contains_first, contains_later}
use Rattle.schema_meaning.proofs.Behind.{subschema_entries}
use Rattle.schema_meaning.proofs.Entries.{each_entry}
use Rattle.schema_meaning.proofs.WrittenLevels.{json_of}

module _ (next : Json → Bool) (means : Schema → Bool) where
  -- each of some schemas means what it is written as
  abbrev pub Agree : List Schema → Type 0
  Agree ss = (s : Schema) → Contains ss s → next (json_of s) ≡ means s

  abbrev written_all : List Schema → List Json
  written_all ss = map untitled (map schema_written ss)

  all_agree : (ss : List Schema) → Agree ss → list_all next (written_all ss) ≡ list_all means ss
  all_agree [] h = refl
  all_agree (s ∷ ss) h = ap₂ (λ (a b : Bool). a && b) (h s (contains_first s ss)) (all_agree ss (λ t c. h t (contains_later s ss t c)))

  any_agrees : (ss : List Schema) → Agree ss → list_any next (written_all ss) ≡ list_any means ss
  any_agrees [] h = refl
  any_agrees (s ∷ ss) h = ap₂ (λ (a b : Bool). a || b) (h s (contains_first s ss)) (any_agrees ss (λ t c. h t (contains_later s ss t c)))

  counted : (ss : List Schema) → Agree ss → count_by next (written_all ss) ≡ count_by means ss
  counted [] h = refl
  counted (s ∷ ss) h =
      omega (arith, counted ss (λ t c. h t (contains_later s ss t c)), sum_by-cons (λ y. cond (next y) 1 0) (json_of s) (written_all ss), sum_by-cons (λ y. cond (means y) 1 0) s ss, ap {B = ℕ} (λ (b : Bool). cond b 1 0) (h s (contains_first s ss)))

  all_part : (o : Option (List Schema)) → ((ss : List Schema) → o ≡ Some ss → Agree ss) → is_none_or (schemas_json (option_map (map schema_written) o)) (every_admits next) ≡ is_none_or o (list_all means)
  all_part None h = refl
  all_part (Some ss) h = ap (λ (x : Level Json). is_some_and (as_list x) (list_all next)) (json.outs-List (written_all ss)) ∙ all_agree ss (h ss refl)

  any_part : (o : Option (List Schema)) → ((ss : List Schema) → o ≡ Some ss → Agree ss) → is_none_or (schemas_json (option_map (map schema_written) o)) (some_admits next) ≡ is_none_or o (list_any means)
  any_part None h = refl
  any_part (Some ss) h = ap (λ (x : Level Json). is_some_and (as_list x) (list_any next)) (json.outs-List (written_all ss)) ∙ any_agrees ss (h ss refl)

  one_part : (o : Option (List Schema)) → ((ss : List Schema) → o ≡ Some ss → Agree ss) → is_none_or (schemas_json (option_map (map schema_written) o)) (one_admits next) ≡ is_none_or o (λ ss. count_by means ss == 1)
  one_part None h = refl
  one_part (Some ss) h = ap (λ (x : Level Json). is_some_and (as_list x) (λ xs. count_by next xs == 1)) (json.outs-List (written_all ss)) ∙ ap (λ n. n == 1) (counted ss (h ss refl))

  not_part : (o : Option Schema) → ((s : Schema) → o ≡ Some s → means s ≡ true) → is_none_or (option_map untitled (option_map schema_written o)) (λ v. false) ≡ is_none_or o (λ s. not (means s))
  not_part None h = refl
  not_part (Some s) h = ap not (sym (h s refl))

regrouped : (a b c d : Bool) → (a && (b && (c && (d && true)))) ≡ (a && (b && (c && d)))
regrouped a b c d = ap (λ (e : Bool). a && (b && (c && e))) (and-true d)

-- the rows of some entries
module _ {X : Type 0} (smaller : X → Json → Bool) (next : Json → Bool) (json : Json) (j : Level X) (schema : List Member) where
  abbrev pub rows : List Entry → Bool
  rows = each_entry (λ name v. row smaller next json j schema (keyword_of name) v)

  pub rows-append : (es fs : List Entry) → rows (es ++ fs) ≡ (rows es && rows fs)
  rows-append es fs = list_all-append (λ e. is_none_or e.1 (λ v. row smaller next json j schema (keyword_of e.0) v)) es fs

module _ {X : Type 0} (smaller : X → Json → Bool) (next : Json → Bool) (json : Json) (j : Level X) (schema : List Member) (means : Schema → Bool) where
  abbrev rows_of : List Entry → Bool
  rows_of = rows smaller next json j schema

  four_agree : (s : Subschemas) → Agree next means (combined_schemas s) → ((t : Schema) → s.not ≡ Some t → means t ≡ true) → rows_of (subschemas_written s) ≡ subschemas_hold means s
  unfolding is_annotation bound_or part_of
  four_agree s agree empty =
      let one = unwrap_or s.one_of [] ++ if_any s.not in
      let any = unwrap_or s.any_of [] ++ one in
      ap rows_of (subschemas-are s)
      ∙ regrouped
      (is_none_or (schemas_json (option_map (map schema_written) s.all_of)) (every_admits next))
      (is_none_or (schemas_json (option_map (map schema_written) s.any_of)) (some_admits next))
      (is_none_or (schemas_json (option_map (map schema_written) s.one_of)) (one_admits next))
      (is_none_or (option_map untitled (option_map schema_written s.not)) (λ v. false))
      ∙ ap₂ (λ (a b : Bool). a && b)
      (all_part next means s.all_of (λ ss e t c. agree t (among_left (unwrap_or s.all_of []) any t (subst (λ (o : Option (List Schema)). Contains (unwrap_or o []) t) (sym e) c))))
      (ap₂ (λ (a b : Bool). a && b)
      (any_part next means s.any_of (λ ss e t c. agree t (among_right (unwrap_or s.all_of []) any t (among_left (unwrap_or s.any_of []) one t (subst (λ (o : Option (List Schema)). Contains (unwrap_or o []) t) (sym e) c)))))
      (ap₂ (λ (a b : Bool). a && b)
      (one_part next means s.one_of (λ ss e t c. agree t (among_right (unwrap_or s.all_of []) any t (among_right (unwrap_or s.any_of []) one t (among_left (unwrap_or s.one_of []) (if_any s.not) t (subst (λ (o : Option (List Schema)). Contains (unwrap_or o []) t) (sym e) c))))))
      (not_part next means s.not empty)))

  pub subschemas_agree : (o : Option Subschemas) → ((s : Subschemas) → o ≡ Some s → Agree next means (combined_schemas s)) → ((s : Subschemas) (t : Schema) → o ≡ Some s → s.not ≡ Some t → means t ≡ true) → rows_of (subschema_entries o) ≡ is_none_or o (subschemas_hold means)
  subschemas_agree None agree empty = refl
  subschemas_agree (Some s) agree empty = four_agree s (agree s refl) (λ t e. empty s t refl e)
