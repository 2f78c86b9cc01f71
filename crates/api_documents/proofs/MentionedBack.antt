-- The names of the references that stand in a descriptor are mentioned there.
use Rattle.std.proofs.Common.{◌≡◌, ℕ, true, false, List, [], ◌∷◌, map, Option, Some, None, refl, sym, ◌∙◌, ap}
use Rattle.std.proofs.Common.{MatchOption, inl, inr}
use Rattle.std.specs.BTreeMap.{is_at}
use Rattle.std.specs.List.{flat_map}
use Rattle.std.specs.Option.{option_map_or}
use Rattle.std.specs.Prelude.{⊤, Contains}
use Rattle.std.proofs.lemmas.Bool.{or_cases, true≢false}
use Rattle.std.proofs.lemmas.List.Folds.{list_any-append}
use Rattle.schema_values.proofs.CallerLemmas.{contains_first, contains_later}
use Rattle.descriptors.specs.declared.desc.Desc.{Desc, out-Desc}
use Rattle.descriptors.specs.declared.desc.Desc.TheOpen.{Desc-F}
use Rattle.descriptors.specs.declared.desc.Desc.TheViews.{roll-Desc, out-roll-Desc}
use Rattle.descriptors.specs.declared.desc.Field.{Field}
use Rattle.descriptors.specs.declared.desc.Variant.{Variant}
use Rattle.descriptors.specs.Definitions.{tagged_fields}
use Rattle.typed_values.specs.Parts.{StandsIn, the_whole, in_option, in_list, in_map, in_field, in_payload, in_variant}
use Rattle.typed_values.specs.Parts.{in_alternative}
use Rattle.typed_values.specs.Reached.{Mentions}
use Rattle.typed_values.proofs.CallerLemmas.{InField, InTagged, InVariant, KnownLevel, by_levels, each_holds, firsts}
use Rattle.typed_values.proofs.CallerLemmas.{stands_through}
use Rattle.api_documents.specs.Ordered.{is_among, text_order}
use Rattle.api_documents.specs.References.{Names, references, references_in_tagged}
use Rattle.api_documents.specs.References.{references_in_variant}
use Rattle.api_documents.proofs.Among.{same_text}
use Rattle.api_documents.proofs.Covered.{all_contained}
use Rattle.api_documents.proofs.ReferenceRows.{of_choice, of_external, of_struct, of_tagged, references_row}

module _ (name : List ℕ) where
  -- what is among names one behind the other is among those of one
  pub from_joined : {X : Type 0} (f : X → Names) (xs : List X) → is_among name (flat_map f xs) ≡ true
      → (x : X) × Contains xs x × (is_among name (f x) ≡ true)
  from_joined f [] h = absurd (true≢false (sym h))
  from_joined f (x ∷ xs) h =
      elim (or_cases (is_among name (f x)) (is_among name (flat_map f xs))
      (sym (list_any-append (is_at (text_order name)) (f x) (flat_map f xs)) ∙ h)) [
        | inl here ↦ (x, contains_first x xs, here)
        | inr later ↦
            let rest = from_joined f xs later in
            (rest.0, contains_later x xs rest.0 rest.1, rest.2)
      ]

  abbrev IsFrom : Desc → Type 0
  IsFrom d = is_among name (references d) ≡ true → Mentions d name

  inner : (whole x : Desc) → StandsIn whole x → Mentions x name → Mentions whole name
  inner whole x s (d, t, e) = (d, stands_through s t, e)

  back : (d : Desc) (names : Names) → references d ≡ names → is_among name (references d) ≡ true
      → is_among name names ≡ true
  back d names e h = sym (ap (is_among name) e) ∙ h

  of_single : (other : List ℕ) → is_among name (other ∷ []) ≡ true → name ≡ other
  of_single other h = elim (or_cases (is_at (text_order name) other) false h) [
    | inl here ↦ same_text name other here
    | inr never ↦ absurd (true≢false (sym never))
  ]

  of_payload : (d : Desc) (vs : List Variant) (v : Variant) → out-Desc d ≡ Desc-F.External vs → Contains vs v
      → InVariant IsFrom v → is_among name (references_in_variant v) ≡ true → Mentions d name
  of_payload d vs v e c holds h = by_payload v.payload refl holds h
    where
      by_payload : (o : Option Desc) → v.payload ≡ o → MatchOption o ⊤ IsFrom
          → is_among name (option_map_or references o []) ≡ true → Mentions d name
      by_payload None q holds h = absurd (true≢false (sym h))
      by_payload (Some x) q holds h = inner d x (in_payload vs v x the_whole e c q) (holds h)

  level_back : (d : Desc) (y : KnownLevel IsFrom) → out-Desc d ≡ firsts IsFrom y → IsFrom d
  level_back d (Desc-F.Option x) e h =
      inner d x.0 (in_option x.0 the_whole e) (x.1 (back d _ (references_row d (Desc-F.Option x.0) e) h))
  level_back d (Desc-F.List x min max) e h =
      inner d x.0 (in_list x.0 min max the_whole e) (x.1 (back d _ (references_row d (Desc-F.List x.0 min max) e) h))
  level_back d (Desc-F.Map x) e h =
      inner d x.0 (in_map x.0 the_whole e) (x.1 (back d _ (references_row d (Desc-F.Map x.0) e) h))
  level_back d (Desc-F.Struct fs deny) e h =
      let all = map (λ k. k.0) fs in
      let field = from_joined (λ (f : Field). references f.desc) all (back d _ (of_struct d all deny e) h) in
      inner d field.0.desc (in_field all deny field.0 the_whole e field.1)
      (all_contained (InField IsFrom) all field.0 (each_holds (InField IsFrom) fs) field.1 field.2)
  level_back d (Desc-F.External vs) e h =
      let all = map (λ k. k.0) vs in
      let variant = from_joined references_in_variant all (back d _ (of_external d all e) h) in
      of_payload d all variant.0 e variant.1
      (all_contained (InVariant IsFrom) all variant.0 (each_holds (InVariant IsFrom) vs) variant.1) variant.2
  level_back d (Desc-F.Tagged tag vs) e h =
      let all = map (λ k. k.0) vs in
      let variant = from_joined references_in_tagged all (back d _ (of_tagged d tag all e) h) in
      let field = from_joined (λ (f : Field). references f.desc) (tagged_fields variant.0) variant.2 in
      inner d field.0.desc (in_variant tag all variant.0 field.0 the_whole e variant.1 field.1)
      (all_contained (InField IsFrom) (tagged_fields variant.0) field.0
      (all_contained (InTagged IsFrom) all variant.0 (each_holds (InTagged IsFrom) vs) variant.1) field.1
      field.2)
  level_back d (Desc-F.Untagged ds) e h =
      let all = map (λ k. k.0) ds in
      let choice = from_joined references all (back d _ (of_choice d all e) h) in
      inner d choice.0 (in_alternative all choice.0 the_whole e choice.1)
      (all_contained IsFrom all choice.0 (each_holds IsFrom ds) choice.1 choice.2)
  level_back d (Desc-F.Ref other) e h =
      let same = of_single other (back d _ (references_row d (Desc-F.Ref other) e) h) in
      (d, the_whole, e ∙ ap Desc-F.Ref (sym same))
  level_back d _ e h = absurd (true≢false (sym (back d _ (references_row d _ e) h)))

  pub mentioned_back : (d : Desc) → is_among name (references d) ≡ true → Mentions d name
  mentioned_back =
      by_levels IsFrom (λ y. level_back (roll-Desc (firsts IsFrom y)) y (out-roll-Desc (firsts IsFrom y)))
