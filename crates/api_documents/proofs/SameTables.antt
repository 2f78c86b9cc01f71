-- Two tables that have the same definitions under the names that a descriptor reaches: what is written under the one is
-- written under the other, and the schemas that are drawn under the one are drawn under the other.
use Rattle.std.proofs.Common.{◌≡◌, ℕ, zero, suc, false, List, [], ◌∷◌, map, Option, Some, None, option_map, refl, sym}
use Rattle.std.proofs.Common.{◌∙◌, ap, ap₂, subst, MatchOption}
use Rattle.std.specs.List.{AllByRecursion}
use Rattle.std.specs.Prelude.{⊤, Contains, slice_get}
use Rattle.schema_values.specs.declared.json_value.Json.{Json, List as Items, Object}
use Rattle.schema_values.specs.declared.json_value.Member.{Member}
use Rattle.schema_values.specs.Member.{member}
use Rattle.schema_values.proofs.CallerLemmas.{contains_first, contains_later}
use Rattle.descriptors.specs.declared.desc.Desc.{Desc, Struct as StructOf, out-Desc}
use Rattle.descriptors.specs.declared.desc.Desc.TheOpen.{Desc-F}
use Rattle.descriptors.specs.declared.desc.Field.{Field}
use Rattle.descriptors.specs.declared.desc.Presence.{Presence}
use Rattle.descriptors.specs.declared.desc.Presence.TheVariants.{Required, Nullable, Skipped, Default}
use Rattle.descriptors.specs.declared.desc.TaggedVariant.{TaggedVariant}
use Rattle.descriptors.specs.declared.desc.Variant.{Variant}
use Rattle.descriptors.specs.declared.table.Definition.{Definition}
use Rattle.descriptors.specs.declared.tree.Pair.{Pair}
use Rattle.descriptors.specs.declared.tree.Tree.{Tree, out-Tree}
use Rattle.descriptors.specs.declared.tree.Tree.TheOpen.{Tree-F}
use Rattle.descriptors.specs.Definitions.{definition, entry_of, tagged_fields, tagged_name}
use Rattle.descriptors.proofs.CallerLemmas.{definition_is}
use Rattle.typed_values.specs.Denotes.{room}
use Rattle.typed_values.specs.Encoding.{is_left_out, unless, members_written, option_written, items_written}
use Rattle.typed_values.specs.Encoding.{pair_written, entries_written, parts_written, choice_written, variant_written}
use Rattle.typed_values.specs.Encoding.{at_place, external_written, with_tag, tagged_written, written_if_there}
use Rattle.typed_values.specs.Encoding.{written_by, written_under, json_of_tree}
use Rattle.typed_values.specs.Fits.{alternative_at, field_desc, struct_of}
use Rattle.typed_values.specs.Guarded.{IsGuarded}
use Rattle.typed_values.specs.Levels.{DescLevel, TreeOf}
use Rattle.typed_values.specs.Parts.{the_whole, IsPart, of_whole as part_of_whole, of_table}
use Rattle.typed_values.specs.Reached.{IsReached}
use Rattle.typed_values.specs.Resting.{RestsBy, Rests}
use Rattle.typed_values.proofs.CallerLemmas.{IsNeeded, of_whole, of_reached, entry_inside, needed_part, option_needed, is_none_tree, written_row, skipped_written, struct_written, alternative_inside, skipped_desc, definition_needed, OfParts, by_parts, parts_weaker}
use Rattle.typed_values.proofs.CallerLemmas.{alternative_needed, field_needed, guarded_rests, list_needed, map_needed, payload_needed, reference_reached, variant_needed}

-- the tables have the same definition, or none, under each name that a descriptor reaches
abbrev pub AgreeOnReached : List Definition → List Definition → Desc → Type 0
AgreeOnReached table other desc =
    (name : List ℕ) → IsReached table desc name → entry_of table name ≡ entry_of other name

-- what stands at a place is among the rest
slot_inside : {A : Type 0} (xs : List A) (i : ℕ) (a : A) → slice_get xs i ≡ Some a → Contains xs a
slot_inside [] i a there = absurd (cc there)
slot_inside (x ∷ xs) zero a there = subst (Contains (x ∷ xs)) {x = x} (cc there) (contains_first x xs)
slot_inside (x ∷ xs) (suc i) a there = contains_later x xs a (slot_inside xs i a there)

module _ (table other : List Definition) (whole : Desc) (agree : AgreeOnReached table other whole) where
  needed_there : (d : Desc) → IsNeeded table whole d → IsPart other whole d
  needed_there d (of_whole s) = part_of_whole s
  needed_there d (of_reached name e r f s) = of_table e (entry_inside other name e (sym (agree name r) ∙ f)) s

  same_definition : (name : List ℕ) → IsReached table whole name → definition table name ≡ definition other name
  same_definition name r =
      definition_is table name ∙ ap (option_map (λ (e : Definition). e.desc)) (agree name r)
      ∙ sym (definition_is other name)

  -- ---- a tree whose parts are written the same

  abbrev Same : Tree → Type 0
  Same t = (d : Desc) → IsNeeded table whole d → written_under table whole t d ≡ written_under other whole t d

  abbrev SameInside : Tree → Type 0
  SameInside t = Same t × OfParts Same (out-Tree t)

  abbrev SameFarInside : Tree → Type 0
  SameFarInside t = SameInside t × OfParts SameInside (out-Tree t)

  same_each : (x : Desc) → IsNeeded table whole x → (ts : List Tree) → AllByRecursion SameInside ts
      → map (λ s. written_under table whole s x) ts ≡ map (λ s. written_under other whole s x) ts
  same_each x need [] h = refl
  same_each x need (t ∷ ts) h = ap₂ (λ (a : Json) (l : List Json). a ∷ l) (h.0.0 x need) (same_each x need ts h.1)

  same_values : (x : Desc) → IsNeeded table whole x → (ps : List Pair) → AllByRecursion (λ p. SameInside p.value) ps
      → map (pair_written (λ s. written_under table whole s x)) ps
      ≡ map (pair_written (λ s. written_under other whole s x)) ps
  same_values x need [] h = refl
  same_values x need (p ∷ ps) h =
      ap₂ (λ (a : Json) (l : List Member). member p.key a ∷ l) (h.0.0 x need) (same_values x need ps h.1)

  same_option : (x : Desc) → IsNeeded table whole x → (y : TreeOf Tree) → OfParts Same y
      → option_written (λ s. written_under table whole s x) y ≡ option_written (λ s. written_under other whole s x) y
  same_option x need (Tree-F.Some t) h = h x need
  same_option x need _ h = refl

  same_items : (x : Desc) → IsNeeded table whole x → (y : TreeOf Tree) → OfParts SameInside y
      → items_written (λ s. written_under table whole s x) y ≡ items_written (λ s. written_under other whole s x) y
  same_items x need (Tree-F.List ts) h = ap Items (same_each x need ts h)
  same_items x need _ h = refl

  same_entries : (x : Desc) → IsNeeded table whole x → (y : TreeOf Tree) → OfParts SameInside y
      → entries_written (λ s. written_under table whole s x) y ≡ entries_written (λ s. written_under other whole s x) y
  same_entries x need (Tree-F.Map ps) h = ap Object (same_values x need ps h)
  same_entries x need _ h = refl

  same_field : (f : Field) → IsNeeded table whole f.desc → (t : Tree) → SameInside t
      → written_under table whole t (field_desc f) ≡ written_under other whole t (field_desc f)
  same_field f need t h = by_presence f.presence refl
    where
      by_presence : (p : Presence) → f.presence ≡ p
          → written_under table whole t (field_desc f) ≡ written_under other whole t (field_desc f)
      by_presence Required q = rw q (h.0 f.desc need)
      by_presence Nullable q = rw q (h.0 f.desc need)
      by_presence (Default s) q = rw q (h.0 f.desc need)
      by_presence Skipped q =
          rw (skipped_desc f q)
          (skipped_written table whole t f.desc ∙ same_option f.desc need (out-Tree t) h.1
          ∙ sym (skipped_written other whole t f.desc))

  same_members : (fs : List Field) (ts : List Tree) → ((f : Field) → Contains fs f → IsNeeded table whole f.desc)
      → AllByRecursion SameInside ts
      → members_written is_none_tree (written_under table whole) fs ts
      ≡ members_written is_none_tree (written_under other whole) fs ts
  same_members [] ts need h = refl
  same_members (f ∷ fs) [] need h = refl
  same_members (f ∷ fs) (t ∷ ts) need h =
      ap₂ (λ (a : Json) (l : List Member). unless (is_left_out f.presence (is_none_tree t)) (member f.name a) l)
      (same_field f (need f (contains_first f fs)) t h.0)
      (same_members fs ts (λ g c. need g (contains_later f fs g c)) h.1)

  same_parts : (fs : List Field) → ((f : Field) → Contains fs f → IsNeeded table whole f.desc) → (y : TreeOf Tree)
      → OfParts SameInside y
      → parts_written is_none_tree (written_under table whole) fs y
      ≡ parts_written is_none_tree (written_under other whole) fs y
  same_parts fs need (Tree-F.Fields ts) h = ap Object (same_members fs ts need h)
  same_parts fs need _ h = refl

  same_alternative : (ds : List Desc) → ((x : Desc) → Contains ds x → IsNeeded table whole x) → (i : ℕ) (t : Tree)
      → Same t → (o : Option Desc) → alternative_at ds i ≡ o
      → written_if_there (written_under table whole t) o ≡ written_if_there (written_under other whole t) o
  same_alternative ds need i t h None e = refl
  same_alternative ds need i t h (Some x) e = h x (need x (alternative_inside ds i x e))

  same_choice : (ds : List Desc) → ((x : Desc) → Contains ds x → IsNeeded table whole x) → (y : TreeOf Tree)
      → OfParts Same y
      → choice_written (written_under table whole) ds y ≡ choice_written (written_under other whole) ds y
  same_choice ds need (Tree-F.Variant i t) h = same_alternative ds need i t h (alternative_at ds i) refl
  same_choice ds need _ h = refl

  same_variant : (v : Variant) → ((x : Desc) → v.payload ≡ Some x → IsNeeded table whole x) → (t : Tree) → Same t
      → variant_written (written_under table whole t) v ≡ variant_written (written_under other whole t) v
  same_variant v need t h = by_payload v.payload refl
    where
      by_payload : (o : Option Desc) → v.payload ≡ o
          → variant_written (written_under table whole t) v ≡ variant_written (written_under other whole t) v
      by_payload None q = rw q refl
      by_payload (Some x) q = rw q (ap (λ (j : Json). Object (member v.name j ∷ [])) (h x (need x q)))

  same_external : (vs : List Variant)
      → ((v : Variant) (x : Desc) → Contains vs v → v.payload ≡ Some x → IsNeeded table whole x) → (y : TreeOf Tree)
      → OfParts Same y
      → external_written (written_under table whole) vs y ≡ external_written (written_under other whole) vs y
  same_external vs need (Tree-F.Variant i t) h = at (slice_get vs i) refl
    where
      at : (o : Option Variant) → slice_get vs i ≡ o
          → at_place (variant_written (written_under table whole t)) o
          ≡ at_place (variant_written (written_under other whole t)) o
      at None e = refl
      at (Some v) e = same_variant v (λ x p. need v x (slot_inside vs i v e) p) t h
  same_external vs need _ h = refl

  -- the struct of a tagged variant is itself no part, but its fields are
  same_struct : (fs : List Field) → ((f : Field) → Contains fs f → IsNeeded table whole f.desc) → (t : Tree)
      → OfParts SameInside (out-Tree t)
      → written_under table whole t (StructOf fs false) ≡ written_under other whole t (StructOf fs false)
  same_struct fs need t h =
      struct_written table whole t fs false ∙ same_parts fs need (out-Tree t) h
      ∙ sym (struct_written other whole t fs false)

  same_tagged : (tag : List ℕ) (vs : List TaggedVariant)
      → ((v : TaggedVariant) (f : Field) → Contains vs v → Contains (tagged_fields v) f → IsNeeded table whole f.desc)
      → (y : TreeOf Tree) → OfParts SameFarInside y
      → tagged_written (written_under table whole) tag vs y ≡ tagged_written (written_under other whole) tag vs y
  same_tagged tag vs need (Tree-F.Variant i t) h = at (slice_get vs i) refl
    where
      behind : (Tree → Desc → Json) → TaggedVariant → Json
      behind written v = with_tag tag (tagged_name v) (written t (struct_of v))

      at : (o : Option TaggedVariant) → slice_get vs i ≡ o
          → at_place (behind (written_under table whole)) o ≡ at_place (behind (written_under other whole)) o
      at None e = refl
      at (Some v) e =
          ap (with_tag tag (tagged_name v))
          (same_struct (tagged_fields v) (λ f c. need v f (slot_inside vs i v e) c) t h.1)
  same_tagged tag vs need _ h = refl

  -- ---- so is the tree

  module _ (guarded : IsGuarded table) (guarded_other : IsGuarded other) where
    module _ (t : Tree) (far : OfParts SameFarInside (out-Tree t)) where
      parts : OfParts SameInside (out-Tree t)
      parts = parts_weaker {P = SameFarInside} {Q = SameInside} (λ s h. h.0) (out-Tree t) far

      own_parts : OfParts Same (out-Tree t)
      own_parts = parts_weaker {P = SameFarInside} {Q = Same} (λ s h. h.0.0) (out-Tree t) far

      SameWithin : ℕ → Type 0
      SameWithin n =
          (d : Desc) → Rests table n d → IsNeeded table whole d
          → written_under table whole t d ≡ written_under other whole t d

      same_reference : (n : ℕ) → SameWithin n → (d : Desc) (name : List ℕ) → IsNeeded table whole d
          → out-Desc d ≡ Desc-F.Ref name → (o : Option Desc) → definition table name ≡ o
          → MatchOption o ⊤ (Rests table n)
          → written_if_there (written_under table whole t) o ≡ written_if_there (written_under other whole t) o
      unfolding SameWithin
      same_reference n next d name need e None f rest = refl
      same_reference n next d name need e (Some x) f rest =
          next x rest (definition_needed table whole d name x e f need)

      abbrev row_of : List Definition → DescLevel → Json
      row_of es z = written_by es is_none_tree (written_under es whole) (written_under es whole t) z (out-Tree t)

      same_row : (n : ℕ) → SameWithin n → (d : Desc) → IsNeeded table whole d → (z : DescLevel) → out-Desc d ≡ z
          → RestsBy table (Rests table n) z → row_of table z ≡ row_of other z
      same_row n next d need (Desc-F.Option x) e rest =
          same_option x (option_needed table whole d x e need) (out-Tree t) own_parts
      same_row n next d need (Desc-F.List x min max) e rest =
          same_items x (list_needed table whole d x min max e need) (out-Tree t) parts
      same_row n next d need (Desc-F.Map x) e rest =
          same_entries x (map_needed table whole d x e need) (out-Tree t) parts
      same_row n next d need (Desc-F.Struct fs deny) e rest =
          same_parts fs (λ f c. field_needed table whole d fs deny f e c need) (out-Tree t) parts
      same_row n next d need (Desc-F.External vs) e rest =
          same_external vs (λ v x c p. payload_needed table whole d vs v x e c p need) (out-Tree t) own_parts
      same_row n next d need (Desc-F.Tagged tag vs) e rest =
          same_tagged tag vs (λ v f c k. variant_needed table whole d tag vs v f e c k need) (out-Tree t) far
      same_row n next d need (Desc-F.Untagged ds) e rest =
          same_choice ds (λ x c. alternative_needed table whole d ds x e c need) (out-Tree t) own_parts
      same_row n next d need (Desc-F.Ref name) e rest =
          same_reference n next d name need e (definition table name) refl rest
          ∙ ap (written_if_there (written_under other whole t))
          (same_definition name (reference_reached table whole d name e need))
      same_row n next d need _ e rest = refl

      same_within : (n : ℕ) → SameWithin n
      unfolding SameWithin Rests
      same_within zero d rest need = absurd rest
      same_within (suc n) d rest need =
          written_row table whole t d (guarded_rests table whole guarded d (needed_part table whole d need))
          ∙ same_row n (same_within n) d need (out-Desc d) refl rest
          ∙ sym (written_row other whole t d (guarded_rests other whole guarded_other d (needed_there d need)))

      same_in : Same t
      unfolding SameWithin
      same_in d need =
          same_within (room table whole) d (guarded_rests table whole guarded d (needed_part table whole d need)) need

    known : (t : Tree) → SameFarInside t
    known = by_parts SameFarInside (λ t far. ((same_in t far, own_parts t far), parts t far))

    -- a tree is written the same under both tables, whether it fits or not
    pub same_json : (t : Tree) → json_of_tree table whole t ≡ json_of_tree other whole t
    same_json t = (known t).0.0 whole (of_whole the_whole)
