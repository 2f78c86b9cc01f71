-- What the members of a struct's schema ask of the pairs of a form: exactly that they denote the struct.
use Rattle.std.proofs.Common.{◌≡◌, ℕ, Bool, true, false, ◌&&◌, ◌||◌, not, List, [], ◌∷◌, ◌++◌, map, Option, is_ok, codes, bytes_eq, refl, sym, ◌∙◌, ap}
use Rattle.std.proofs.lemmas.List.Folds.{list_all-map}
use Rattle.std.proofs.Math.Bool.{and-true}
use Rattle.std.specs.List.{list_all}
use Rattle.std.specs.Prelude.{Contains}
use Rattle.schema_values.specs.declared.json_value.Json.{Json, out-Json, Text as Words, List as Items, Object}
use Rattle.schema_values.specs.declared.json_value.Json.TheVariants as json
use Rattle.schema_values.specs.declared.json_value.Member.{Member}
use Rattle.schema_values.specs.Get.{first_named}
use Rattle.schema_values.specs.Member.{name_of}
use Rattle.schema_values.specs.Order.{sorted_by, same_name}
use Rattle.request_words.specs.declared.pairs.NamedText.{NamedText}
use Rattle.request_words.specs.Pairs.{values_of, are_some, has_pair}
use Rattle.openapi_values.specs.FormAdmits.{properties_hold, object_holds}
use Rattle.openapi_values.specs.Levels.{Level, as_text, as_list, as_object}
use Rattle.openapi_values.specs.Options.{is_some_and, is_none_or}
use Rattle.openapi_values.specs.Pages.{name_stands, required_stand}
use Rattle.openapi_values.specs.RequestParameters.{values_hold}
use Rattle.openapi_values.specs.TextAdmits.{text_admitted}
use Rattle.descriptors.specs.declared.desc.Field.{Field}
use Rattle.descriptors.specs.declared.desc.Presence.{Presence}
use Rattle.descriptors.specs.declared.desc.Presence.TheVariants.{Required, Nullable, Skipped, Default}
use Rattle.descriptors.specs.declared.table.Definition.{Definition}
use Rattle.typed_values.specs.DescBeside.{field_with}
use Rattle.typed_values.specs.SchemaTable.{Remarks, annotations, drawn, of_type, if_members, if_names, property_of}
use Rattle.typed_values.proofs.CallerLemmas.{two_maps}
use Rattle.flat_maps.specs.declared.repeats.Repeats.TheVariants.{Refuse}
use Rattle.flat_maps.specs.Pairs.{pairs_fields}
use Rattle.written_schemas.proofs.CallerLemmas.{field_property, properties_drawn, names_required, fields_drawn, notes_passed, all_sorted}
use Rattle.written_texts.specs.FieldParameters.{is_required}
use Rattle.written_texts.proofs.FieldTexts.{all_alike, all_both, stands_if}
use Rattle.written_texts.proofs.Places.{AgreesOn, pairs_told_where}

module _ (doc : Json) (pairs : List NamedText) (n : Bool) (t : Option (List ℕ)) (r : Remarks) where
  names_written : (names : List (List ℕ)) → list_all (name_stands pairs) (map Words names) ≡ list_all (has_pair pairs) names
  names_written [] = refl
  names_written (name ∷ names) =
      ap (λ (x : Level Json). is_some_and (as_text x) (has_pair pairs) && list_all (name_stands pairs) (map Words names)) (json.outs-Text name)
      ∙ ap (λ (b : Bool). has_pair pairs name && b) (names_written names)

  -- the members of an object's schema that is open to other names
  abbrev pub open_object : List Member → List (List ℕ) → List Member
  open_object properties names = of_type (codes "object") (if_members properties (codes "properties") (if_names names (codes "required") []))

  asked : (properties : List Member) → is_some_and (as_object (out-Json (Object properties))) (properties_hold doc pairs) ≡ properties_hold doc pairs properties
  asked properties = ap (λ (x : Level Json). is_some_and (as_object x) (properties_hold doc pairs)) (json.outs-Object properties)

  listed : (names : List (List ℕ)) → is_some_and (as_list (out-Json (Items (map Words names)))) (list_all (name_stands pairs)) ≡ list_all (has_pair pairs) names
  listed names = ap (λ (x : Level Json). is_some_and (as_list x) (list_all (name_stands pairs))) (json.outs-List (map Words names)) ∙ names_written names

  by_members : (properties : List Member) (names : List (List ℕ)) →
      (is_none_or (first_named (codes "properties") (open_object properties names)) (λ s. is_some_and (as_object (out-Json s)) (properties_hold doc pairs))
      && required_stand pairs (first_named (codes "required") (open_object properties names)))
      ≡ (properties_hold doc pairs properties && list_all (has_pair pairs) names)
  by_members [] [] = refl
  by_members [] (name ∷ names) = listed (name ∷ names)
  by_members (m ∷ ms) [] = ap (λ (b : Bool). b && true) (asked (m ∷ ms))
  by_members (m ∷ ms) (name ∷ names) =
      ap (λ (b : Bool). b && is_some_and (as_list (out-Json (Items (map Words (name ∷ names))))) (list_all (name_stands pairs))) (asked (m ∷ ms))
      ∙ ap (λ (b : Bool). properties_hold doc pairs (m ∷ ms) && b) (listed (name ∷ names))

  object_asks : (properties : List Member) (names : List (List ℕ)) → object_holds doc pairs (annotations n t r ++ open_object properties names) ≡ (properties_hold doc pairs properties && list_all (has_pair pairs) names)
  object_asks properties names =
      let asks : Bool =
      is_none_or (first_named (codes "properties") (open_object properties names)) (λ s. is_some_and (as_object (out-Json s)) (properties_hold doc pairs))
      && required_stand pairs (first_named (codes "required") (open_object properties names)) in
      rw (
        notes_passed n t r (open_object properties names) (codes "type") (refl, refl, refl, refl),
        notes_passed n t r (open_object properties names) (codes "properties") (refl, refl, refl, refl),
        notes_passed n t r (open_object properties names) (codes "required") (refl, refl, refl, refl),
      )
      (ap (λ (x : Level Json). is_some_and (as_text x) (λ name. bytes_eq name (codes "object")) && asks) (json.outs-Text (codes "object")) ∙ by_members properties names)

module _ (table : List Definition) (doc : Json) (pairs : List NamedText) where
  required_stands : (fs : List Field) → list_all (has_pair pairs) (names_required table fs) ≡ list_all (stands_if pairs) fs
  required_stands [] = refl
  required_stands (f ∷ fs) = by_presence f.presence refl (required_stands fs)
    where
      by_presence : (p : Presence) → f.presence ≡ p → list_all (has_pair pairs) (names_required table fs) ≡ list_all (stands_if pairs) fs
          → list_all (has_pair pairs) (names_required table (f ∷ fs)) ≡ ((not (is_required f.presence) || has_pair pairs f.name) && list_all (stands_if pairs) fs)
      by_presence Required e later = rw e (ap (λ (b : Bool). has_pair pairs f.name && b) later)
      by_presence Nullable e later = rw e later
      by_presence Skipped e later = rw e later
      by_presence (Default tree) e later = rw e later

  -- what a field's property admits
  abbrev pub property_admits : Field → List ℕ → Bool
  property_admits f text = text_admitted doc (field_property table f).value text

  one_field : (f : Field) (texts : List (List ℕ)) → (values_hold (property_admits f) false texts && (not (is_required f.presence) || are_some texts)) ≡ values_hold (property_admits f) (is_required f.presence) texts
  one_field f texts = by_texts (is_required f.presence) texts
    where
      by_texts : (b : Bool) (texts : List (List ℕ)) → (values_hold (property_admits f) false texts && (not b || are_some texts)) ≡ values_hold (property_admits f) b texts
      by_texts true [] = refl
      by_texts false [] = refl
      by_texts true (text ∷ []) = and-true (property_admits f text)
      by_texts false (text ∷ []) = and-true (property_admits f text)
      by_texts true (text ∷ other ∷ texts) = refl
      by_texts false (text ∷ other ∷ texts) = refl

  -- all properties and required names hold exactly where the fields' struct is denoted
  pub object_told : (n : Bool) (t : Option (List ℕ)) (r : Remarks) (fs : List Field) → ((f : Field) → Contains fs f → AgreesOn table (property_admits f) f)
      → object_holds doc pairs (annotations n t r ++ (fields_drawn table fs false).members) ≡ is_ok (pairs_fields table Refuse pairs fs)
  object_told n t r fs agree =
      object_asks doc pairs n t r (sorted_by name_of (properties_drawn table fs)) (sorted_by same_name (names_required table fs))
      ∙ ap (λ (b : Bool). b && list_all (has_pair pairs) (sorted_by same_name (names_required table fs)))
      (all_sorted name_of (λ m. values_hold (text_admitted doc m.value) false (values_of m.name pairs)) (properties_drawn table fs)
      ∙ ap (properties_hold doc pairs) (two_maps (property_of table) (field_with (drawn table)) (field_property table) (λ f. refl) fs)
      ∙ list_all-map (λ m. values_hold (text_admitted doc m.value) false (values_of m.name pairs)) (field_property table) fs)
      ∙ ap (λ (b : Bool). list_all (λ f. values_hold (property_admits f) false (values_of f.name pairs)) fs && b) (all_sorted same_name (has_pair pairs) (names_required table fs) ∙ required_stands fs)
      ∙ sym (all_both (λ f. values_hold (property_admits f) false (values_of f.name pairs)) (stands_if pairs) fs)
      ∙ all_alike _ (λ f. values_hold (property_admits f) (is_required f.presence) (values_of f.name pairs)) fs (λ f c. one_field f (values_of f.name pairs))
      ∙ pairs_told_where table property_admits fs agree pairs
