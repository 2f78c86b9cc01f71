-- The schemas of enumerations admit exactly the texts that are one of the names.
use Rattle.std.proofs.Common.{◌≡◌, ℕ, suc, Bool, false, ◌&&◌, ◌||◌, List, [], ◌∷◌, ◌++◌, map, Option, Some, None, is_ok, codes, bytes_eq, count_by, ◌==◌, refl, sym, ◌∙◌, ap}
use Rattle.std.proofs.Math.Bool.{or-false}
use Rattle.std.specs.List.{list_any}
use Rattle.schema_values.specs.declared.json_value.Json.{Json, out-Json, Text as Words, List as Items, Object}
use Rattle.schema_values.specs.declared.json_value.Json.TheOpen.{Json-F}
use Rattle.schema_values.specs.declared.json_value.Json.TheVariants as json
use Rattle.schema_values.specs.Member.{member}
use Rattle.schema_values.specs.Sound.{AreDistinct}
use Rattle.openapi_values.specs.Levels.{Level, is_null, as_text}
use Rattle.openapi_values.specs.Lookup.{is_of_type}
use Rattle.openapi_values.specs.Options.{is_some_and}
use Rattle.openapi_values.specs.Room.{room}
use Rattle.openapi_values.specs.Smaller.{smaller_admits}
use Rattle.openapi_values.specs.TextAdmits.{text_step, text_within}
use Rattle.descriptors.specs.declared.desc.Named.{Named}
use Rattle.descriptors.specs.Definitions.{listed_name}
use Rattle.typed_values.specs.SchemaTable.{Drawn, Remarks, annotations, no_remarks, enumerated, described_choice, choices_of, nothing, drawn_json}
use Rattle.scalar_texts.specs.Texts.{name_of_text}
use Rattle.written_schemas.proofs.CallerLemmas.{count, one_counted, enumerated_is, is_named, names_admit, named_once, ok_named, choices_counted, notes_passed}
use Rattle.written_texts.proofs.ScalarTexts.{first_step, beside_null}
use Rattle.written_texts.proofs.SchemaSteps.{one_more, typed_step, string_step, choice_step}

pub ok_name : (ns : List Named) (text : List ℕ) → is_ok (name_of_text ns text) ≡ list_any (bytes_eq text) (map listed_name ns)
ok_name ns text = ok_named {X = Json} ns (Json-F.Text text)

module _ (doc : Json) (text : List ℕ) where
  module _ (next : Json → Bool) (n : Bool) (t : Option (List ℕ)) (r : Remarks) where
    -- without names there is no type, and nothing is admitted
    no_names : text_step doc next text (Object (annotations n t r ++ nothing)) ≡ false
    no_names =
        let schema = annotations n t r ++ nothing in
        let no_type : (name : List ℕ) → is_of_type name schema ≡ false =
        λ name. ap (λ (o : Option Json). is_some_and o (λ s. is_some_and (as_text (out-Json s)) (λ other. bytes_eq other name))) (notes_passed n t r nothing (codes "type") (refl, refl, refl, refl)) in
        typed_step doc next text n t r (member (codes "not") (Object [])) [] refl refl refl
        ∙ rw (no_type (codes "boolean"), no_type (codes "integer"), no_type (codes "string")) refl

    names_step : (names : List (List ℕ)) → text_step doc next text (Object (annotations n t r ++ (enumerated names).members)) ≡ list_any (bytes_eq text) names
    names_step [] = no_names
    names_step (name ∷ others) =
        let names = name ∷ others in
        let schema = annotations n t r ++ (enumerated names).members in
        string_step doc next text n t r (member (codes "enum") (Items (map Words names)) ∷ []) refl refl
        ∙ first_step doc schema (Words text) (out-Json (Words text)) refl (list_any (bytes_eq text) names)
        (λ next.
        names_admit doc (smaller_admits doc (room doc (Object schema))) next (Words text) n t r names
        ∙ ap (λ (x : Level Json). n && is_null x || list_any (is_named x) names) (json.outs-Text text)
        ∙ beside_null n _ _ refl)

  one_list : (k : ℕ) (names : List (List ℕ)) → text_within doc text (suc k) (drawn_json (enumerated names)) ≡ list_any (bytes_eq text) names
  one_list k names =
      ap (λ (x : Drawn). text_within doc text (suc k) (drawn_json x)) (enumerated_is names)
      ∙ one_more doc text k (Object (enumerated names).members)
      ∙ names_step (text_within doc text k) false None no_remarks names

  one_name : (k : ℕ) (n : Named) → text_within doc text (suc k) (described_choice n) ≡ bytes_eq text n.name
  one_name k n = by_text n.description
    where
      by_text : (d : Option (List ℕ)) → text_within doc text (suc k) (described_choice (record { name = n.name; description = d })) ≡ bytes_eq text n.name
      by_text None = one_list k (n.name ∷ []) ∙ or-false _
      by_text (Some d) =
          one_more doc text k (Object (annotations false None (record no_remarks { description = Some d }) ++ (enumerated (n.name ∷ [])).members))
          ∙ names_step (text_within doc text k) false None (record no_remarks { description = Some d }) (n.name ∷ [])
          ∙ or-false _

  -- exactly one choice admits a name that is listed, and none any other text
  names_counted : (ns : List Named) → AreDistinct (map listed_name ns) → (k : ℕ) → count_by (text_within doc text (suc k)) (choices_of ns) ≡ count (list_any (bytes_eq text) (map listed_name ns))
  names_counted ns once k = choices_counted (bytes_eq text) (named_once {X = Json} (Json-F.Text text)) (text_within doc text (suc k)) (one_list k) (one_name k) ns once

  -- an enumeration without descriptions, and one with
  module _ (n : Bool) (t : Option (List ℕ)) (r : Remarks) (ns : List Named) where
    pub plain_names : (k : ℕ) → text_within doc text (suc k) (Object (annotations n t r ++ (enumerated (map listed_name ns)).members)) ≡ is_ok (name_of_text ns text)
    plain_names k =
        one_more doc text k _
        ∙ names_step (text_within doc text k) n t r (map listed_name ns)
        ∙ sym (ok_name ns text)

    pub described_names : AreDistinct (map listed_name ns) → (k : ℕ) → text_within doc text (suc (suc k)) (Object (annotations n t r ++ member (codes "oneOf") (Items (choices_of ns)) ∷ [])) ≡ is_ok (name_of_text ns text)
    described_names once k =
        one_more doc text (suc k) _
        ∙ choice_step doc (text_within doc text (suc k)) text n t r (choices_of ns)
        ∙ ap (λ (k : ℕ). k == 1) (names_counted ns once k)
        ∙ one_counted (list_any (bytes_eq text) (map listed_name ns))
        ∙ sym (ok_name ns text)
