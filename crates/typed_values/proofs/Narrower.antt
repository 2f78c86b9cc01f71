-- In a guarded table a tree fits a descriptor that stands in another, or in the table, whichever is the whole.
use Rattle.std.proofs.Common.{◌≡◌, ℕ, zero, suc, Bool, false, ◌&&◌, List, [], ◌∷◌, length, map, Option, Some, None, refl, sym, ◌∙◌, ap, ap₂, subst, MatchOption, nat_lt}
use Rattle.std.specs.List.{AllByRecursion}
use Rattle.std.specs.Prelude.{⊤, Contains}
use Rattle.descriptors.specs.declared.desc.Desc.{Desc, Null as NullDesc, Struct as StructOf, out-Desc}
use Rattle.descriptors.specs.declared.desc.Desc.TheOpen.{Desc-F}
use Rattle.descriptors.specs.declared.desc.Field.{Field}
use Rattle.descriptors.specs.declared.desc.Named.{Named}
use Rattle.descriptors.specs.declared.desc.Presence.{Presence}
use Rattle.descriptors.specs.declared.desc.Presence.TheVariants.{Required, Nullable, Skipped, Default}
use Rattle.descriptors.specs.declared.desc.TaggedVariant.{TaggedVariant}
use Rattle.descriptors.specs.declared.desc.Variant.{Variant}
use Rattle.descriptors.specs.declared.table.Definition.{Definition}
use Rattle.descriptors.specs.declared.tree.Pair.{Pair}
use Rattle.descriptors.specs.declared.tree.Tree.{Tree, out-Tree}
use Rattle.descriptors.specs.declared.tree.Tree.TheOpen.{Tree-F}
use Rattle.typed_values.specs.Bounds.{is_length_within}
use Rattle.typed_values.specs.Checks.{TablePasses, DescPasses}
use Rattle.descriptors.specs.Definitions.{definition, tagged_fields}
use Rattle.typed_values.specs.Denotes.{room}
use Rattle.typed_values.specs.Fits.{name_fits, option_fits, each_fits, items_fit, are_ascending, key_of, entries_fit, field_desc, fields_fit, parts_fit, choice_fits, if_there, alternative_at, payload_or_null, payload_of, struct_of, fits_by, fits_under}
use Rattle.typed_values.specs.Guarded.{IsGuarded}
use Rattle.typed_values.specs.Levels.{DescLevel, TreeOf}
use Rattle.typed_values.specs.Parts.{StandsIn, the_whole, in_option, in_list, in_map, in_field, in_payload, in_variant, in_alternative, IsPart, of_whole, of_table}
use Rattle.typed_values.specs.Resting.{RestsBy, Rests}
use Rattle.typed_values.proofs.Arms.{definition_is_part}
use Rattle.typed_values.proofs.FitRows.{alternative_inside, skipped_desc}
use Rattle.typed_values.proofs.FitSteps.{fits_row, nought_row, skipped_row, struct_row}
use Rattle.schema_values.proofs.CallerLemmas.{contains_first, contains_later}
use Rattle.typed_values.proofs.Inside.{part_of}
use Rattle.typed_values.proofs.Soundness.{guarded_rests, is_right}
use Rattle.typed_values.proofs.TreeParts.{OfParts, by_parts, parts_weaker}
use Rattle.typed_values.proofs.Within.{stands_through}

-- an alternative that a thing gives is that of one inside
given_inside : {A : Type 0} (desc_of : A → Desc) (xs : List A) (i : ℕ) (x : Desc) → alternative_at (map desc_of xs) i ≡ Some x → (a : A) × Contains xs a × (desc_of a ≡ x)
given_inside desc_of [] i x e = absurd (cc e)
given_inside desc_of (a ∷ xs) zero x e = let q : desc_of a ≡ x = cc e in (a, contains_first a xs, q)
given_inside desc_of (a ∷ xs) (suc i) x e = let (b, c, q) = given_inside desc_of xs i x e in (b, contains_later a xs b c, q)

module _ (table : List Definition) (whole inner : Desc) (inside : IsPart table whole inner) where
  part_inside : {d : Desc} → StandsIn inner d → IsPart table whole d
  part_inside t = part_of (λ w s. stands_through s t) inside

  pub inner_passes : TablePasses table → DescPasses table whole → DescPasses table inner
  inner_passes passes right d s = is_right table whole d passes right (part_inside s)

  wider : (d : Desc) → IsPart table inner d → IsPart table whole d
  wider d (of_whole s) = part_inside s
  wider d (of_table e c s) = of_table e c s

module _ (table : List Definition) (whole inner : Desc) (inside : IsPart table whole inner) (guarded : IsGuarded table) where
  abbrev Same : Tree → Type 0
  Same t = (d : Desc) → IsPart table inner d → fits_under table whole t d ≡ fits_under table inner t d

  abbrev SameInside : Tree → Type 0
  SameInside t = Same t × OfParts Same (out-Tree t)

  abbrev SameFarInside : Tree → Type 0
  SameFarInside t = SameInside t × OfParts SameInside (out-Tree t)

  same_each : (x : Desc) → IsPart table inner x → (ts : List Tree) → AllByRecursion SameInside ts → each_fits (λ s. fits_under table whole s x) ts ≡ each_fits (λ s. fits_under table inner s x) ts
  same_each x part [] h = refl
  same_each x part (t ∷ ts) h = ap₂ (λ (a b : Bool). a && b) (h.0.0 x part) (same_each x part ts h.1)

  same_values : (x : Desc) → IsPart table inner x → (ps : List Pair) → AllByRecursion (λ p. SameInside p.value) ps → each_fits (λ p. fits_under table whole p.value x) ps ≡ each_fits (λ p. fits_under table inner p.value x) ps
  same_values x part [] h = refl
  same_values x part (p ∷ ps) h = ap₂ (λ (a b : Bool). a && b) (h.0.0 x part) (same_values x part ps h.1)

  same_name : (ns : List Named) (y : TreeOf Tree) → name_fits (λ s. fits_under table whole s NullDesc) ns y ≡ name_fits (λ s. fits_under table inner s NullDesc) ns y
  same_name ns (Tree-F.Variant i t) = ap (λ (b : Bool). nat_lt i (length ns) && b) (nought_row table whole t ∙ sym (nought_row table inner t))
  same_name ns _ = refl

  same_option : (x : Desc) → IsPart table inner x → (y : TreeOf Tree) → OfParts Same y → option_fits (λ s. fits_under table whole s x) y ≡ option_fits (λ s. fits_under table inner s x) y
  same_option x part (Tree-F.Some t) h = h x part
  same_option x part _ h = refl

  same_items : (x : Desc) (min max : Option ℕ) → IsPart table inner x → (y : TreeOf Tree) → OfParts SameInside y → items_fit (λ s. fits_under table whole s x) min max y ≡ items_fit (λ s. fits_under table inner s x) min max y
  same_items x min max part (Tree-F.List ts) h = ap (λ (b : Bool). is_length_within min max (length ts) && b) (same_each x part ts h)
  same_items x min max part _ h = refl

  same_entries : (x : Desc) → IsPart table inner x → (y : TreeOf Tree) → OfParts SameInside y → entries_fit (λ s. fits_under table whole s x) y ≡ entries_fit (λ s. fits_under table inner s x) y
  same_entries x part (Tree-F.Map ps) h = ap (λ (b : Bool). are_ascending (map key_of ps) && b) (same_values x part ps h)
  same_entries x part _ h = refl

  same_field : (f : Field) → IsPart table inner f.desc → (t : Tree) → SameInside t → fits_under table whole t (field_desc f) ≡ fits_under table inner t (field_desc f)
  same_field f part t h = by_presence f.presence refl
    where
      by_presence : (p : Presence) → f.presence ≡ p → fits_under table whole t (field_desc f) ≡ fits_under table inner t (field_desc f)
      by_presence Required q = rw q (h.0 f.desc part)
      by_presence Nullable q = rw q (h.0 f.desc part)
      by_presence (Default s) q = rw q (h.0 f.desc part)
      by_presence Skipped q = rw (skipped_desc f q) (skipped_row table whole t f.desc ∙ same_option f.desc part (out-Tree t) h.1 ∙ sym (skipped_row table inner t f.desc))

  same_fields : (fs : List Field) (ts : List Tree) → ((f : Field) → Contains fs f → IsPart table inner f.desc) → AllByRecursion SameInside ts → fields_fit (fits_under table whole) fs ts ≡ fields_fit (fits_under table inner) fs ts
  same_fields [] [] part h = refl
  same_fields [] (t ∷ ts) part h = refl
  same_fields (f ∷ fs) [] part h = refl
  same_fields (f ∷ fs) (t ∷ ts) part h =
      ap₂ (λ (a b : Bool). a && b) (same_field f (part f (contains_first f fs)) t h.0) (same_fields fs ts (λ g c. part g (contains_later f fs g c)) h.1)

  same_parts : (fs : List Field) → ((f : Field) → Contains fs f → IsPart table inner f.desc) → (y : TreeOf Tree) → OfParts SameInside y → parts_fit (fits_under table whole) fs y ≡ parts_fit (fits_under table inner) fs y
  same_parts fs part (Tree-F.Fields ts) h = same_fields fs ts part h
  same_parts fs part _ h = refl

  -- under each of some alternatives
  abbrev SameAt : List Desc → Tree → Type 0
  SameAt ds t = (i : ℕ) (x : Desc) → alternative_at ds i ≡ Some x → fits_under table whole t x ≡ fits_under table inner t x

  same_alternative : (ds : List Desc) (i : ℕ) (t : Tree) → SameAt ds t → (o : Option Desc) → alternative_at ds i ≡ o → if_there (fits_under table whole t) o ≡ if_there (fits_under table inner t) o
  same_alternative ds i t h None e = refl
  same_alternative ds i t h (Some x) e = h i x e

  same_choice : (ds : List Desc) (y : TreeOf Tree) → OfParts (SameAt ds) y → choice_fits (fits_under table whole) ds y ≡ choice_fits (fits_under table inner) ds y
  same_choice ds (Tree-F.Variant i t) h = same_alternative ds i t h (alternative_at ds i) refl
  same_choice ds _ h = refl

  same_payload : (o : Option Desc) → ((x : Desc) → o ≡ Some x → IsPart table inner x) → (t : Tree) → Same t → fits_under table whole t (payload_or_null o) ≡ fits_under table inner t (payload_or_null o)
  same_payload None part t h = nought_row table whole t ∙ sym (nought_row table inner t)
  same_payload (Some x) part t h = h x (part x refl)

  -- the struct of a tagged variant is itself no part, but its fields are
  same_struct : (fs : List Field) → ((f : Field) → Contains fs f → IsPart table inner f.desc) → (t : Tree) → OfParts SameInside (out-Tree t) → fits_under table whole t (StructOf fs false) ≡ fits_under table inner t (StructOf fs false)
  same_struct fs part t h = struct_row table whole t fs false ∙ same_parts fs part (out-Tree t) h ∙ sym (struct_row table inner t fs false)

  under_alternatives : (ds : List Desc) → ((x : Desc) → Contains ds x → IsPart table inner x) → (t : Tree) → SameFarInside t → SameAt ds t
  under_alternatives ds part t h i x e = h.0.0 x (part x (alternative_inside ds i x e))

  under_payloads : (vs : List Variant) → ((v : Variant) (x : Desc) → Contains vs v → v.payload ≡ Some x → IsPart table inner x) → (t : Tree) → SameFarInside t → SameAt (map payload_of vs) t
  under_payloads vs part t h i x e =
      let (v, c, q) = given_inside payload_of vs i x e in
      subst (λ (d : Desc). fits_under table whole t d ≡ fits_under table inner t d) q (same_payload v.payload (λ y p. part v y c p) t h.0.0)

  under_structs : (vs : List TaggedVariant) → ((v : TaggedVariant) (f : Field) → Contains vs v → Contains (tagged_fields v) f → IsPart table inner f.desc) → (t : Tree) → SameFarInside t → SameAt (map struct_of vs) t
  under_structs vs part t h i x e =
      let (v, c, q) = given_inside struct_of vs i x e in
      subst (λ (d : Desc). fits_under table whole t d ≡ fits_under table inner t d) q (same_struct (tagged_fields v) (λ f k. part v f c k) t h.1)

  module _ (t : Tree) (far : OfParts SameFarInside (out-Tree t)) where
    parts : OfParts SameInside (out-Tree t)
    parts = parts_weaker {P = SameFarInside} {Q = SameInside} (λ s h. h.0) (out-Tree t) far

    own_parts : OfParts Same (out-Tree t)
    own_parts = parts_weaker {P = SameFarInside} {Q = Same} (λ s h. h.0.0) (out-Tree t) far

    -- the alternatives are the same, and so is the choice
    chosen : (ds : List Desc) → ((s : Tree) → SameFarInside s → SameAt ds s) → choice_fits (fits_under table whole) ds (out-Tree t) ≡ choice_fits (fits_under table inner) ds (out-Tree t)
    chosen ds same = same_choice ds (out-Tree t) (parts_weaker {P = SameFarInside} {Q = SameAt ds} same (out-Tree t) far)

    SameWithin : ℕ → Type 0
    SameWithin n = (d : Desc) → Rests table n d → IsPart table inner d → fits_under table whole t d ≡ fits_under table inner t d

    same_reference : (n : ℕ) → SameWithin n → (name : List ℕ) (o : Option Desc) → definition table name ≡ o → MatchOption o ⊤ (Rests table n) → if_there (fits_under table whole t) o ≡ if_there (fits_under table inner t) o
    unfolding SameWithin
    same_reference n next name None f rest = refl
    same_reference n next name (Some x) f rest = next x rest (definition_is_part table inner name x f)

    abbrev row_of : Desc → DescLevel → Bool
    row_of w z = fits_by table (fits_under table w) (fits_under table w t) z (out-Tree t)

    same_row : (n : ℕ) → SameWithin n → (d : Desc) → IsPart table inner d → (z : DescLevel) → out-Desc d ≡ z → RestsBy table (Rests table n) z → row_of whole z ≡ row_of inner z
    same_row n next d part (Desc-F.Enumeration ns) e rest = same_name ns (out-Tree t)
    same_row n next d part (Desc-F.Option x) e rest = same_option x (part_of (λ w s. in_option x s e) part) (out-Tree t) own_parts
    same_row n next d part (Desc-F.List x min max) e rest = same_items x min max (part_of (λ w s. in_list x min max s e) part) (out-Tree t) parts
    same_row n next d part (Desc-F.Map x) e rest = same_entries x (part_of (λ w s. in_map x s e) part) (out-Tree t) parts
    same_row n next d part (Desc-F.Struct fs deny) e rest = same_parts fs (λ f c. part_of (λ w s. in_field fs deny f s e c) part) (out-Tree t) parts
    same_row n next d part (Desc-F.External vs) e rest = chosen (map payload_of vs) (under_payloads vs (λ v x c p. part_of (λ w s. in_payload vs v x s e c p) part))
    same_row n next d part (Desc-F.Tagged tag vs) e rest = chosen (map struct_of vs) (under_structs vs (λ v f c k. part_of (λ w s. in_variant tag vs v f s e c k) part))
    same_row n next d part (Desc-F.Untagged ds) e rest = chosen ds (under_alternatives ds (λ x c. part_of (λ w s. in_alternative ds x s e c) part))
    same_row n next d part (Desc-F.Ref name) e rest = same_reference n next name (definition table name) refl rest
    same_row n next d part _ e rest = refl

    same_within : (n : ℕ) → SameWithin n
    unfolding SameWithin Rests
    same_within zero d rest part = absurd rest
    same_within (suc n) d rest part =
        fits_row table whole t d (guarded_rests table whole guarded d (wider table whole inner inside d part))
        ∙ same_row n (same_within n) d part (out-Desc d) refl rest
        ∙ sym (fits_row table inner t d (guarded_rests table inner guarded d part))

    same_in : Same t
    unfolding SameWithin
    same_in d part = same_within (room table inner) d (guarded_rests table inner guarded d part) part

  known : (t : Tree) → SameFarInside t
  known = by_parts SameFarInside (λ t far. ((same_in t far, own_parts t far), parts t far))

  -- with the one or the other as the whole
  pub same_fits : (t : Tree) → fits_under table whole t inner ≡ fits_under table inner t inner
  same_fits t = (known t).0.0 inner (of_whole the_whole)
