-- What a written object admits, by the entries behind its annotations.
use Rattle.std.proofs.Common.{◌≡◌, ℕ, Bool, true, false, ◌&&◌, ◌||◌, not, List, [], ◌∷◌, ◌++◌, Option, None, option_map, cond, bytes_eq, if◌then◌else◌, refl, sym, ◌∙◌, ap, true≢false}
use Rattle.std.specs.List.{list_all}
use Rattle.std.specs.Option.{option_map_or, option_or}
use Rattle.std.specs.Prelude.{codes}
use Rattle.std.proofs.lemmas.Slice.Eq.{bytes_eq-Decides}
use Rattle.schema_values.specs.declared.json_value.Json.{Json, Text, out-Json}
use Rattle.schema_values.specs.declared.json_value.Json.TheVariants.{outs-Bool, outs-Object}
use Rattle.schema_values.specs.declared.json_value.Member.{Member}
use Rattle.schema_values.specs.Get.{first_named}
use Rattle.schema_values.specs.Parts.{Parts}
use Rattle.openapi_values.specs.declared.keywords.Keyword.{Keyword}
use Rattle.openapi_values.specs.declared.keywords.Keyword.TheVariants.{Annotation, Nullable}
use Rattle.openapi_values.specs.IfTrue.{if_true}
use Rattle.openapi_values.specs.JsonAdmits.{object_admits, members_admit, schema_admits}
use Rattle.openapi_values.specs.Keywords.{keyword_of, is_annotation, bound_or, part_of}
use Rattle.openapi_values.specs.Levels.{Level, is_null, is_true, as_text, as_list, as_object}
use Rattle.openapi_values.specs.Lookup.{definition, reference_in, is_set, is_null_alone, is_null_form}
use Rattle.openapi_values.specs.Objects.{Entry, members_of, object_of}
use Rattle.openapi_values.specs.Options.{is_some_and, is_none_or}
use Rattle.openapi_values.specs.Rows.{row, is_read, members_hold}
use Rattle.openapi_values.specs.SchemaJson.{annotations, extension_entries}
use Rattle.schema_meaning.proofs.Entries.{each_entry, over_members, value_named, first_named-is, AreRemarks, extensions_remark, passed, named_behind}

-- the annotations beside `nullable`
abbrev remarks : Option (List ℕ) → Parts → List Entry
remarks given p =
    (codes "readOnly", if_true p.read_only)
    ∷ (codes "writeOnly", if_true p.write_only)
    ∷ (codes "deprecated", if_true p.deprecated)
    ∷ (codes "example", first_named (codes "example") p.extensions)
    ∷ (codes "title", option_map Text (option_or given p.title))
    ∷ (codes "description", option_map Text p.description)
    ∷ (codes "default", p.default)
    ∷ extension_entries p.extensions

are_remarks : (given : Option (List ℕ)) (p : Parts) → AreRemarks (remarks given p)
unfolding is_annotation
are_remarks given p = (refl, (refl, (refl, (refl, (refl, (refl, (refl, extensions_remark p.extensions)))))))

-- whether the entries are those of the type of null
abbrev pub null_form : List Entry → Bool
null_form es =
    is_some_and (value_named (codes "type") es) (λ s. is_some_and (as_text (out-Json s)) (λ name. bytes_eq name (codes "string")))
    && is_some_and (value_named (codes "enum") es) (λ s. is_some_and (as_list (out-Json s)) is_null_alone)

-- whether the entries behind annotations are read, and that none is a reference or `nullable`
pub record AreBehind (es : List Entry) (all_read : Bool) : Type 0 where
  pub read : each_entry (λ name v. is_read (keyword_of name) v) es ≡ all_read
  pub no_reference : each_entry (λ name v. not (bytes_eq name (codes "$ref"))) es ≡ true
  pub no_null : value_named (codes "nullable") es ≡ None

not_taken : {A : Type 0} (b : Bool) (o : Option A) → (not b && true) ≡ true → cond b o None ≡ None
not_taken true o h = absurd (cc h)
not_taken false o h = refl

no_reference_in : (ms : List Member) → list_all (λ m. not (bytes_eq m.name (codes "$ref"))) ms ≡ true → reference_in ms ≡ None
no_reference_in [] h = refl
no_reference_in (m ∷ []) h = not_taken (bytes_eq m.name (codes "$ref")) _ h
no_reference_in (m ∷ l ∷ ms) h = refl

if_holds : (b : Bool) (q : Json → Bool) → ((v : Json) → q v ≡ true) → (rest : Bool) → (is_none_or (if_true b) q && rest) ≡ rest
if_holds true q h rest = ap (λ c. c && rest) (h _)
if_holds false q h rest = refl

module _ (given : Option (List ℕ)) (p : Parts) (es : List Entry) where
  abbrev pub all_entries : List Entry
  all_entries = annotations given p ++ es

  -- each annotation passes a test
  all_passed : (q : List ℕ → Json → Bool) → ((v : Json) → q (codes "nullable") v ≡ true) → ((name : List ℕ) (v : Json) → is_annotation name ≡ true → q name v ≡ true) → each_entry q all_entries ≡ each_entry q es
  all_passed q null holds = if_holds p.nullable (q (codes "nullable")) null (each_entry q (remarks given p ++ es)) ∙ passed q holds (remarks given p) es (are_remarks given p)

  by_keyword : (k : Keyword → Json → Bool) → ((v : Json) → k Annotation v ≡ true) → ((v : Json) → k Nullable v ≡ true) → each_entry (λ name v. k (keyword_of name) v) all_entries ≡ each_entry (λ name v. k (keyword_of name) v) es
  unfolding is_annotation bound_or part_of
  by_keyword k note null = all_passed (λ name v. k (keyword_of name) v) null (λ name v e. ap (λ b. k (cond b Annotation (bound_or (part_of name) name)) v) e ∙ note v)

  pub named_among : (name : List ℕ) → bytes_eq name (codes "nullable") ≡ false → is_annotation name ≡ false → first_named name (members_of all_entries) ≡ value_named name es
  named_among name e f =
      first_named-is name all_entries
      ∙ ap (λ b. cond b (option_or (if_true p.nullable) (value_named name (remarks given p ++ es))) (value_named name (remarks given p ++ es))) e
      ∙ named_behind name (remarks given p) es f (are_remarks given p)

  is_nullable : value_named (codes "nullable") es ≡ None → is_set (codes "nullable") (members_of all_entries) ≡ p.nullable
  unfolding is_annotation
  is_nullable none = ap (λ o. is_some_and o (λ s. is_true (out-Json s))) (first_named-is (codes "nullable") all_entries) ∙ by_case p.nullable
    where
      by_case : (b : Bool) → is_some_and (option_or (if_true b) (value_named (codes "nullable") (remarks given p ++ es))) (λ s. is_true (out-Json s)) ≡ b
      by_case true = ap is_true (outs-Bool true)
      by_case false = ap (λ o. is_some_and o (λ s. is_true (out-Json s))) (named_behind (codes "nullable") (remarks given p) es refl (are_remarks given p) ∙ none)

  formed : is_null_form (members_of all_entries) ≡ null_form es
  unfolding is_annotation
  formed =
      ap (λ o. is_some_and o (λ s. is_some_and (as_text (out-Json s)) (λ name. bytes_eq name (codes "string"))) && is_some_and (first_named (codes "enum") (members_of all_entries)) (λ s. is_some_and (as_list (out-Json s)) is_null_alone)) (named_among (codes "type") refl refl)
      ∙ ap (λ o. is_some_and (value_named (codes "type") es) (λ s. is_some_and (as_text (out-Json s)) (λ name. bytes_eq name (codes "string"))) && is_some_and o (λ s. is_some_and (as_list (out-Json s)) is_null_alone)) (named_among (codes "enum") refl refl)

  no_reference : each_entry (λ name v. not (bytes_eq name (codes "$ref"))) es ≡ true → reference_in (members_of all_entries) ≡ None
  unfolding is_annotation
  no_reference h =
      no_reference_in (members_of all_entries)
      (over_members (λ name v. not (bytes_eq name (codes "$ref"))) all_entries
      ∙ all_passed (λ name v. not (bytes_eq name (codes "$ref"))) (λ v. refl) (λ name v e. ap not (swapped name e))
      ∙ h)
    where
      swapped : (name : List ℕ) → is_annotation name ≡ true → bytes_eq name (codes "$ref") ≡ false
      swapped name e = by_test (bytes_eq name (codes "$ref")) refl
        where
          by_test : (b : Bool) → bytes_eq name (codes "$ref") ≡ b → b ≡ false
          by_test true t = absurd (true≢false (sym e ∙ ap is_annotation ((bytes_eq-Decides name (codes "$ref")).0 t)))
          by_test false t = refl

  module _ {X : Type 0} (doc : Json) (smaller : X → Json → Bool) (next : Json → Bool) (json : Json) (j : Level X) where
    -- the rows of some entries of the whole object
    abbrev pub entries_hold : List Entry → Bool
    entries_hold = each_entry (λ name v. row smaller next json j (members_of all_entries) (keyword_of name) v)

    -- where all is read, null is admitted beside `nullable`, and else what the entries behind the annotations admit
    pub noted_admits : {all_read : Bool} → AreBehind es all_read → schema_admits doc smaller next json j (object_of all_entries) ≡ (all_read && (p.nullable && is_null j || (if null_form es then is_null j else entries_hold es)))
    noted_admits {all_read} behind =
        let schema = members_of all_entries in
        ap (λ (x : Level Json). is_some_and (as_object x) (members_admit doc smaller next json j)) (outs-Object schema)
        ∙ ap (λ (o : Option (List ℕ)). option_map_or (λ name. is_some_and (definition doc name) next) o (object_admits smaller next json j schema)) (no_reference behind.no_reference)
        ∙ ap (λ b. b && (is_set (codes "nullable") schema && is_null j || (if is_null_form schema then is_null j else members_hold smaller next json j schema)))
        (over_members (λ name v. is_read (keyword_of name) v) all_entries ∙ by_keyword is_read (λ v. refl) (λ v. refl) ∙ behind.read)
        ∙ ap (λ b. all_read && (b && is_null j || (if is_null_form schema then is_null j else members_hold smaller next json j schema))) (is_nullable behind.no_null)
        ∙ ap (λ b. all_read && (p.nullable && is_null j || (if b then is_null j else members_hold smaller next json j schema))) formed
        ∙ ap (λ b. all_read && (p.nullable && is_null j || (if null_form es then is_null j else b)))
        (over_members (λ name v. row smaller next json j schema (keyword_of name) v) all_entries ∙ by_keyword (row smaller next json j schema) (λ v. refl) (λ v. refl))
