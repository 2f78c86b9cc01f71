-- What an operation in pages asks of the fields of what it scans.
use Rattle.std.proofs.Common.{◌≡◌, ℕ, Bool, true, false, ◌&&◌, ◌||◌, not, List, [], ◌∷◌, map, filter, Option, Some, option_map, is_ok, cond, codes, bytes_eq, refl, sym, ◌∙◌, ap}
use Rattle.std.proofs.Math.Bool.{and-true, or-false, or-true}
use Rattle.std.specs.List.{list_all}
use Rattle.std.specs.Prelude.{Contains}
use Rattle.schema_values.specs.declared.json_value.Json.{Json}
use Rattle.schema_values.specs.declared.variables.VariableValue.TheVariants.{String}
use Rattle.schema_values.specs.Order.{sorted_by}
use Rattle.request_words.specs.declared.pairs.NamedText.{NamedText}
use Rattle.request_words.specs.Pairs.{values_of, last_text, last_value, are_some, has_pair}
use Rattle.openapi_values.specs.Pages.{has_token, is_read, page_query_holds}
use Rattle.openapi_values.specs.RequestParameters.{stands_or_not, values_hold}
use Rattle.openapi_values.specs.TextAdmits.{text_admitted}
use Rattle.descriptors.specs.declared.desc.Desc.{Desc}
use Rattle.descriptors.specs.declared.desc.Field.{Field}
use Rattle.descriptors.specs.declared.table.Definition.{Definition}
use Rattle.descriptors.specs.Definitions.{field_name}
use Rattle.descriptors.proofs.CallerLemmas.{other_name}
use Rattle.typed_values.specs.Schemas.{in_query}
use Rattle.typed_values.specs.SchemaTable.{schema_json}
use Rattle.flat_maps.specs.Flat.{under_struct, fields_told, given_told, looked_up, flat_told}
use Rattle.flat_maps.specs.Pairs.{last_values}
use Rattle.written_schemas.proofs.CallerLemmas.{all_sorted}
use Rattle.written_texts.specs.FieldParameters.{is_required}
use Rattle.written_texts.specs.FlatStructs.{IsFlatStruct, DefinesFields}
use Rattle.written_texts.specs.PageParameters.{first_page_names, NoneNamed}
use Rattle.written_texts.proofs.FieldTexts.{told_or_not, field_holds, ok_fields, all_alike, all_both, stands_if}
use Rattle.written_texts.proofs.FlatFields.{field_written}
use Rattle.written_texts.proofs.Places.{AgreesOn}
use Rattle.written_texts.proofs.Whole.{query_texts}

-- ---- what is asked of one name

module _ (pairs : List NamedText) (name : List ℕ) (admitted : List ℕ → Bool) (no_limit : bytes_eq name (codes "limit") ≡ false) where
  at_other : page_query_holds pairs admitted false name ≡ (not (is_read pairs name) || stands_or_not admitted false (last_value name pairs))
  at_other = ap (λ (b : Bool). cond b (values_hold admitted false (values_of name pairs)) (not (is_read pairs name) || stands_or_not admitted false (last_value name pairs))) no_limit

  -- for the first page its last value is read
  on_first : has_token pairs ≡ false → page_query_holds pairs admitted false name ≡ stands_or_not admitted false (last_value name pairs)
  on_first none =
      at_other
      ∙ ap (λ (b : Bool). not (bytes_eq name (codes "page_token") || not b) || stands_or_not admitted false (last_value name pairs)) none
      ∙ ap (λ (b : Bool). not b || stands_or_not admitted false (last_value name pairs)) (or-true (bytes_eq name (codes "page_token")))

  -- for a later one it is not read
  on_later : bytes_eq name (codes "page_token") ≡ false → has_token pairs ≡ true → page_query_holds pairs admitted false name ≡ true
  on_later no_token some =
      at_other
      ∙ ap (λ (b : Bool). not (b || not (has_token pairs)) || stands_or_not admitted false (last_value name pairs)) no_token
      ∙ ap (λ (b : Bool). not (not b) || stands_or_not admitted false (last_value name pairs)) some

-- the last of some texts is there
some_last : (text : List ℕ) (texts : List (List ℕ)) → (last : List ℕ) × (last_text (text ∷ texts) ≡ Some last)
some_last text [] = (text, refl)
some_last text (other ∷ texts) = some_last other texts

-- ---- what is asked of the fields

module _ (table : List Definition) (pairs : List NamedText) where
  one_scanned : (admitted : List ℕ → Bool) (f : Field) → AgreesOn table admitted f → (texts : List (List ℕ))
      → (stands_or_not admitted false (last_text texts) && (not (is_required f.presence) || are_some texts)) ≡ told_or_not (is_required f.presence) (option_map (given_told table f.desc) (option_map String (last_text texts)))
  one_scanned admitted f same [] = or-false (not (is_required f.presence))
  one_scanned admitted f same (text ∷ texts) =
      let (last, is) = some_last text texts in
      ap (λ (o : Option (List ℕ)). stands_or_not admitted false o && (not (is_required f.presence) || true)) is
      ∙ ap (λ (b : Bool). admitted last && b) (or-true (not (is_required f.presence)))
      ∙ and-true (admitted last)
      ∙ same last
      ∙ sym (ap (λ (o : Option (List ℕ)). told_or_not (is_required f.presence) (option_map (given_told table f.desc) (option_map String o))) is)

  names_stand : (fs : List Field) → list_all (has_pair pairs) (map field_name (filter (λ f. is_required f.presence) fs)) ≡ list_all (stands_if pairs) fs
  names_stand [] = refl
  names_stand (f ∷ fs) = by_test (is_required f.presence) (names_stand fs)
    where
      rest : List (List ℕ)
      rest = map field_name (filter (λ f. is_required f.presence) fs)

      by_test : (b : Bool) → list_all (has_pair pairs) rest ≡ list_all (stands_if pairs) fs
          → list_all (has_pair pairs) (map field_name (cond b (f ∷ filter (λ f. is_required f.presence) fs) (filter (λ f. is_required f.presence) fs))) ≡ ((not b || has_pair pairs f.name) && list_all (stands_if pairs) fs)
      by_test true later = ap (λ (b : Bool). has_pair pairs f.name && b) later
      by_test false later = later

  module _ (admitted : Field → List ℕ → Bool) (fs : List Field) (agree : (f : Field) → Contains fs f → AgreesOn table (admitted f) f) where
    scan_told_where : (list_all (λ f. stands_or_not (admitted f) false (last_value f.name pairs)) fs && list_all (has_pair pairs) (first_page_names fs)) ≡ is_ok (fields_told (looked_up table (last_values pairs)) fs)
    scan_told_where =
        ap (λ (b : Bool). list_all (λ f. stands_or_not (admitted f) false (last_value f.name pairs)) fs && b) (names_stand (sorted_by field_name fs) ∙ all_sorted field_name (stands_if pairs) fs)
        ∙ sym (all_both (λ f. stands_or_not (admitted f) false (last_value f.name pairs)) (stands_if pairs) fs)
        ∙ all_alike _ (field_holds (looked_up table (last_values pairs))) fs (λ f c. one_scanned (admitted f) f (agree f c) (values_of f.name pairs))
        ∙ sym (ok_fields (looked_up table (last_values pairs)) fs)

-- ---- what is asked of the parameters

module _ (doc : Json) (table : List Definition) (pairs : List NamedText) (fs : List Field) where
  abbrev admits : Field → List ℕ → Bool
  admits f = text_admitted doc (schema_json table (in_query f.desc))

  -- what an operation in pages asks of each field
  abbrev pub scans_hold : Bool
  scans_hold = list_all (λ f. page_query_holds pairs (admits f) false f.name) fs

  not_named : (name : List ℕ) → NoneNamed name fs → (f : Field) → Contains fs f → bytes_eq f.name name ≡ false
  not_named name none f c = other_name f.name name (none f c)

  pub later_scans : NoneNamed (codes "limit") fs → NoneNamed (codes "page_token") fs → has_token pairs ≡ true → scans_hold ≡ true
  later_scans no_limit no_token some =
      all_alike (λ f. page_query_holds pairs (admits f) false f.name) (λ f. true) fs
      (λ f c. on_later pairs f.name (admits f) (not_named (codes "limit") no_limit f c) (not_named (codes "page_token") no_token f c) some)
      ∙ all_true fs
    where
      all_true : (fs : List Field) → list_all (λ f. true) fs ≡ true
      all_true [] = refl
      all_true (f ∷ fs) = all_true fs

  pub first_scans : (desc : Desc) → IsFlatStruct table desc fs → DefinesFields doc table fs → NoneNamed (codes "limit") fs → has_token pairs ≡ false
      → (scans_hold && list_all (has_pair pairs) (first_page_names fs)) ≡ is_ok (flat_told table (last_values pairs) desc)
  first_scans desc flat defines no_limit none =
      ap (λ (b : Bool). b && list_all (has_pair pairs) (first_page_names fs))
      (all_alike (λ f. page_query_holds pairs (admits f) false f.name) (λ f. stands_or_not (admits f) false (last_value f.name pairs)) fs
      (λ f c. on_first pairs f.name (admits f) (not_named (codes "limit") no_limit f c) none))
      ∙ scan_told_where table pairs admits fs (λ f c. query_texts doc table f.desc (field_written table desc fs flat doc defines f c) (flat.scalar f c))
      ∙ ap (λ o. is_ok (under_struct (fields_told (looked_up table (last_values pairs))) o)) (sym flat.has_fields)
