-- For each place: all fields hold as a document asks it of their texts, exactly where their struct is denoted.
use Rattle.std.proofs.Common.{◌≡◌, ℕ, zero, suc, Bool, true, false, ◌&&◌, not, List, [], ◌∷◌, Option, Some, None, option_map, option_and_then, is_ok, refl, sym, ◌∙◌, ap}
use Rattle.std.specs.BTreeMap.{get, BTreeMap}
use Rattle.std.specs.Cmp.Lexicographic.{slice_cmp}
use Rattle.std.specs.List.{list_all}
use Rattle.std.specs.Ordering.{nat_cmp}
use Rattle.std.specs.Prelude.{Contains}
use Rattle.std.specs.Str.{encode_utf8_all}
use Rattle.schema_values.specs.declared.variables.VariableValue.{VariableValue}
use Rattle.schema_values.specs.declared.variables.VariableValue.TheVariants.{String, Components}
use Rattle.request_words.specs.declared.pairs.NamedText.{NamedText}
use Rattle.request_words.specs.declared.request.HeaderLine.{HeaderLine}
use Rattle.request_words.specs.HeaderLines.{last_line, all_shown}
use Rattle.request_words.specs.Pairs.{are_several, is_doubled, last_text, values_of}
use Rattle.openapi_values.specs.Options.{is_some_and}
use Rattle.openapi_values.specs.RequestParameters.{values_hold, variable_holds, header_holds, stands_or_not, shown_admitted}
use Rattle.descriptors.specs.declared.desc.Desc.{Desc}
use Rattle.descriptors.specs.declared.desc.Field.{Field}
use Rattle.descriptors.specs.declared.desc.Presence.{Presence}
use Rattle.descriptors.specs.declared.desc.Presence.TheVariants.{Required}
use Rattle.descriptors.specs.declared.table.Definition.{Definition}
use Rattle.descriptors.proofs.CallerLemmas.{definition_is}
use Rattle.typed_values.specs.declared.fault.FaultKind.TheVariants.{HeaderBytes}
use Rattle.typed_values.specs.Denotes.{if_holds, room}
use Rattle.flat_maps.specs.declared.repeats.Repeats.TheVariants.{Refuse}
use Rattle.flat_maps.specs.Flat.{resolved_at, resolved, texts_told, given_told, fields_told, looked_up}
use Rattle.flat_maps.specs.Maps.{map_values}
use Rattle.flat_maps.specs.Pairs.{last_values, pairs_fields}
use Rattle.scalar_texts.specs.Texts.{text_told}
use Rattle.written_texts.specs.FieldParameters.{is_required, AllRequired}
use Rattle.header_texts.specs.HeaderTexts.{line_told, header_told}
use Rattle.handler_shapes.specs.ScalarTypes.{IsScalarType, a_truth, a_character, a_number, a_text, a_name, an_option, a_reference}
use Rattle.written_texts.proofs.FieldTexts.{told_or_not, field_holds, ok_fields, ok_doubled, all_alike, all_both}

module _ (table : List Definition) where
  -- of a field the texts are admitted that denote something
  abbrev pub AgreesOn : (List ℕ → Bool) → Field → Type 0
  AgreesOn admitted f = (text : List ℕ) → admitted text ≡ is_ok (text_told table text f.desc)

  -- what has texts is no list
  no_list : (texts : List (List ℕ)) (n : ℕ) (d : Desc) → IsScalarType table d → is_ok (texts_told table texts (resolved_at table n d)) ≡ false
  unfolding resolved_at
  no_list texts zero d scalar = refl
  no_list texts (suc n) d (a_truth e) = rw e (rw e refl)
  no_list texts (suc n) d (a_character e) = rw e (rw e refl)
  no_list texts (suc n) d (a_number kind min max e) = rw e (rw e refl)
  no_list texts (suc n) d (a_text min max format e) = rw e (rw e refl)
  no_list texts (suc n) d (a_name names e) = rw e (rw e refl)
  no_list texts (suc n) d (an_option x e scalar) = rw e (rw e refl)
  no_list texts (suc n) d (a_reference name y e found scalar) =
      rw e (ap (λ (o : Option Desc). is_ok (texts_told table texts (option_and_then (resolved_at table n) o))) (definition_is table name ∙ ap (option_map (λ e. e.desc)) found) ∙ no_list texts n y.desc scalar)

  module _ (admitted : Field → List ℕ → Bool) (fs : List Field) (agree : (f : Field) → Contains fs f → AgreesOn (admitted f) f) where
    one_value : (f : Field) → AgreesOn (admitted f) f → (texts : List (List ℕ))
        → values_hold (admitted f) (is_required f.presence) texts ≡ (not (are_several texts) && told_or_not (is_required f.presence) (option_map (given_told table f.desc) (option_map String (last_text texts))))
    one_value f same [] = refl
    one_value f same (text ∷ []) = same text
    one_value f same (text ∷ other ∷ texts) = refl

    -- a query, or a form: each name stands once at most
    pub pairs_told_where : (pairs : List NamedText) → list_all (λ f. values_hold (admitted f) (is_required f.presence) (values_of f.name pairs)) fs ≡ is_ok (pairs_fields table Refuse pairs fs)
    pairs_told_where pairs =
        all_alike _ (λ f. not (is_doubled pairs f.name) && field_holds (looked_up table (last_values pairs)) f) fs (λ f c. one_value f (agree f c) (values_of f.name pairs))
        ∙ all_both (λ f. not (is_doubled pairs f.name)) (field_holds (looked_up table (last_values pairs))) fs
        ∙ ap (λ (b : Bool). list_all (λ f. not (is_doubled pairs f.name)) fs && b) (sym (ok_fields (looked_up table (last_values pairs)) fs))
        ∙ sym (ok_doubled pairs fs (fields_told (looked_up table (last_values pairs)) fs))

    one_variable : (f : Field) → f.presence ≡ Required → IsScalarType table f.desc → AgreesOn (admitted f) f → (o : Option VariableValue)
        → is_some_and o (variable_holds (admitted f)) ≡ told_or_not (is_required f.presence) (option_map (given_told table f.desc) (option_map (λ value. value) o))
    unfolding resolved
    one_variable f required scalar same None = ap (λ (p : Presence). not (is_required p)) (sym required)
    one_variable f required scalar same (Some (String text)) = same text
    one_variable f required scalar same (Some (Components texts)) = sym (no_list texts (room table f.desc) f.desc scalar)

    -- a path: each variable is one text
    pub variables_told_where : (variables : BTreeMap (List ℕ) VariableValue) → AllRequired fs → ((f : Field) → Contains fs f → IsScalarType table f.desc)
        → list_all (λ f. is_some_and (get (slice_cmp nat_cmp) variables f.name) (variable_holds (admitted f))) fs ≡ is_ok (fields_told (looked_up table (map_values (λ value. value) variables)) fs)
    variables_told_where variables required scalar =
        all_alike _ (field_holds (looked_up table (map_values (λ value. value) variables))) fs (λ f c. one_variable f (required f c) (scalar f c) (agree f c) (get (slice_cmp nat_cmp) variables f.name))
        ∙ sym (ok_fields (looked_up table (map_values (λ value. value) variables)) fs)

    one_line : (f : Field) → AgreesOn (admitted f) f → (o : Option (List ℕ))
        → stands_or_not (shown_admitted (admitted f)) (is_required f.presence) o ≡ told_or_not (is_required f.presence) (option_map (line_told table f.desc) o)
    one_line f same None = refl
    one_line f same (Some value) = ap (λ (b : Bool). all_shown value && b) (same value) ∙ by_test (all_shown value)
      where
        by_test : (b : Bool) → (b && is_ok (text_told table value f.desc)) ≡ is_ok (if_holds b HeaderBytes (text_told table value f.desc))
        by_test true = refl
        by_test false = refl

    -- headers: of each name the last line counts, and has visible characters alone
    pub lines_told_where : (lines : List HeaderLine) → list_all (λ f. header_holds lines (admitted f) (is_required f.presence) f.name) fs ≡ is_ok (fields_told (header_told table lines) fs)
    lines_told_where lines =
        all_alike _ (field_holds (header_told table lines)) fs (λ f c. one_line f (agree f c) (last_line (encode_utf8_all f.name) lines))
        ∙ sym (ok_fields (header_told table lines) fs)
