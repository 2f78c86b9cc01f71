-- Of the parameters that an operation in pages lists: none is required, and which texts `limit` has.
use Rattle.std.proofs.Common.{◌≡◌, ◌↔◌, ◌≤◌, ℕ, ℤ, pos, negsuc, Bool, true, false, ◌&&◌, not, int_le, List, [], ◌∷◌, map, Option, Some, None, is_ok, codes, IsTrue, refl, sym, ◌∙◌, ap, subst, arith}
use Rattle.std.proofs.lemmas.Bool.{and_from, and_parts, leb-true, le-leb}
use Rattle.std.proofs.lemmas.List.Folds.{list_all-map}
use Rattle.std.specs.List.{list_all}
use Rattle.std.specs.declared.result.Result.TheVariants.{Ok}
use Rattle.schema_values.specs.declared.json_value.Json.{Null}
use Rattle.request_words.specs.declared.pairs.NamedText.{NamedText}
use Rattle.request_words.specs.Pairs.{values_of}
use Rattle.openapi_values.specs.declared.parameter.Parameter.{Parameter}
use Rattle.openapi_values.specs.RequestParameters.{values_hold}
use Rattle.openapi_values.specs.TextAdmits.{text_admitted}
use Rattle.descriptors.specs.declared.desc.Desc.{Int, Option as OptionOf}
use Rattle.descriptors.specs.declared.desc.Desc.TheOpen.{Desc-F}
use Rattle.descriptors.specs.declared.desc.Desc.TheVariants as desc
use Rattle.descriptors.specs.declared.desc.Field.{Field}
use Rattle.descriptors.specs.declared.desc.IntKind.TheVariants.{U32}
use Rattle.descriptors.specs.declared.table.Definition.{Definition}
use Rattle.descriptors.specs.declared.tree.Tree.{Tree, Int as Number}
use Rattle.typed_values.specs.declared.fault.FaultKind.{FaultKind}
use Rattle.typed_values.specs.declared.fault.FaultKind.TheVariants.{BadText}
use Rattle.typed_values.specs.Bounds.{is_number_of}
use Rattle.typed_values.specs.Denotes.{Told, if_holds, just}
use Rattle.typed_values.specs.SchemaTable.{schema_json}
use Rattle.typed_values.proofs.CallerLemmas.{ok_just}
use Rattle.scalar_texts.specs.Texts.{kind_name, number_in, number_of_text, number_or_fault, text_told}
use Rattle.scalar_texts.proofs.CallerLemmas.{text_row}
use Rattle.written_schemas.proofs.CallerLemmas.{all_sorted}
use Rattle.written_texts.specs.FieldParameters.{parameter_of}
use Rattle.written_texts.specs.PageParameters.{AreItemCount, HasLimit, NoneRequired, limit_field, page_parameters, parameter_name, scan_parameter, token_field}
use Rattle.written_texts.proofs.PageTexts.{limit_text, limit_where, none_guarded}

-- ---- none is required

all_true : (fs : List Field) → list_all (λ (f : Field). true) fs ≡ true
all_true [] = refl
all_true (f ∷ fs) = all_true fs

pub none_required : (table : List Definition) (fs : List Field) → NoneRequired (page_parameters table fs)
none_required table fs =
    all_sorted parameter_name (λ (p : Parameter). not p.required)
    (parameter_of (codes "query") (λ desc. desc) [] limit_field ∷ parameter_of (codes "query") (λ desc. desc) [] token_field ∷ map (scan_parameter table) fs)
    ∙ list_all-map (λ (p : Parameter). not p.required) (scan_parameter table) fs
    ∙ all_true fs

-- ---- the texts of `limit`

within : (n : ℕ) → is_number_of U32 (Some (pos 1)) None (pos n) ≡ true ↔ ((1 ≤ n) × (n ≤ 4294967295))
within n = (
  λ h.
      let parts = and_parts (int_le (pos 0) (pos n) && int_le (pos n) (pos 4294967295)) (int_le (pos 1) (pos n) && true) h in
      let kind = and_parts (int_le (pos 0) (pos n)) (int_le (pos n) (pos 4294967295)) parts.0 in
      let least = and_parts (int_le (pos 1) (pos n)) true parts.1 in
      (leb-true 1 n least.0, leb-true n 4294967295 kind.1),
  λ h. and_from _ _ (and_from _ _ (le-leb 0 n (omega arith)) (le-leb n 4294967295 h.1)) (and_from _ _ (le-leb 1 n h.0) refl),
)

ok_if : (b : Bool) (kind : FaultKind) (t : Tree) → is_ok (if_holds b kind (Ok t)) ≡ b
ok_if true kind t = refl
ok_if false kind t = refl

items_where : (text : List ℕ) (o : Option ℤ) → IsTrue (is_ok (number_or_fault U32 (Some (pos 1)) None text o)) ↔ ((n : ℕ) × (o ≡ Some (pos n)) × (1 ≤ n) × (n ≤ 4294967295))
items_where text None = (λ h. absurd (cc h), λ h. absurd (cc h.1))
items_where text (Some (negsuc k)) = (λ h. absurd (cc h), λ h. absurd (cc h.1))
items_where text (Some (pos n)) =
    let same = ok_if (is_number_of U32 (Some (pos 1)) None (pos n)) (BadText text (kind_name U32)) (Number (pos n)) in (
      λ h. let bounds = (within n).0 (sym same ∙ h) in (n, refl, bounds.0, bounds.1),
      λ h. let is : h.0 ≡ n = cc h.1 in same ∙ (within n).1 (subst (λ (m : ℕ). (1 ≤ m) × (m ≤ 4294967295)) is (h.2, h.3)),
    )

limit_told : (text : List ℕ) → text_told [] text limit_field.desc ≡ just (number_of_text U32 (Some (pos 1)) None text)
limit_told text =
    let x = Int U32 (Some (pos 1)) None in
    text_row [] text none_guarded (OptionOf x) (Desc-F.Option x) (desc.outs-Option x)
    ∙ ap (λ (o : Told). just o) (text_row [] text none_guarded x (Desc-F.Int U32 (Some (pos 1)) None) (desc.outs-Int U32 (Some (pos 1)) None))

texts_where : (texts : List (List ℕ)) → IsTrue (values_hold (text_admitted Null (schema_json [] limit_field.desc)) false texts) ↔ AreItemCount texts
texts_where [] = (λ h. tt, λ h. refl)
texts_where (text ∷ []) =
    let same = limit_text Null text ∙ ap (λ (o : Told). is_ok o) (limit_told text) ∙ ok_just (number_of_text U32 (Some (pos 1)) None text) in
    let items = items_where text (number_in U32 text) in
    (λ h. items.0 (sym same ∙ h), λ h. same ∙ items.1 h)
texts_where (text ∷ other ∷ texts) = (λ h. absurd (cc h), λ h. absurd h)

pub limit_stands : (pairs : List NamedText) → HasLimit pairs ↔ AreItemCount (values_of (codes "limit") pairs)
limit_stands pairs =
    let held = limit_where Null pairs in
    let texts = texts_where (values_of (codes "limit") pairs) in
    (λ h. texts.0 (held.1 h), λ h. held.0 (texts.1 h))
