-- On a sound table the steps are never spent: each row of what is written holds with no steps in it.
use Rattle.std.proofs.Common.{rules, ◌≡◌, ℕ, zero, suc, ◌+◌, Bool, List, [], ◌∷◌, ◌++◌, map, Result, Ok, Err, Option, Some, None, refl, sym, ◌∙◌, ap, MatchOption}
use Rattle.std.specs.Prelude.{⊤, IsOkAnd, IfOk}
use Rattle.schema_values.specs.declared.json_value.Json.{Json, List as Items, Object}
use Rattle.schema_values.specs.Member.{member}
use Rattle.descriptors.specs.declared.desc.Desc.{Desc, Option as OptionOf, Struct as StructOf, out-Desc}
use Rattle.descriptors.specs.declared.desc.Desc.TheOpen.{Desc-F}
use Rattle.descriptors.specs.declared.desc.Desc.TheVariants.{outs-Option, outs-Struct}
use Rattle.descriptors.specs.declared.desc.Field.{Field}
use Rattle.descriptors.specs.declared.desc.Named.{Named}
use Rattle.descriptors.specs.declared.desc.TaggedVariant.{TaggedVariant}
use Rattle.descriptors.specs.declared.desc.Variant.{Variant}
use Rattle.descriptors.specs.declared.tree.Tree.{Tree, out-Tree}
use Rattle.descriptors.specs.declared.tree.Tree.TheOpen.{Tree-F}
use Rattle.descriptors.specs.declared.table.Definition.{Definition}
use Rattle.descriptors.specs.Definitions.{definition}
use Rattle.typed_values.specs.Denotes.{room, nodes, nodes_of_table}
use Rattle.typed_values.specs.Encoding.{Writing, is_left_out, unless, members_written, written_if_there, scalar_written, whole_written, listed_written, option_written, items_written, pair_written, entries_written, parts_written, choice_written, external_written, tagged_written, written_by, is_none_written, written_at, is_none_level, writing_step, writing, written_under}
use Rattle.typed_values.specs.Fits.{field_desc}
use Rattle.typed_values.specs.Levels.{DescLevel, TreeOf}
use Rattle.typed_values.specs.Resting.{RestsBy, Rests}
use Rattle.typed_values.proofs.Rows.{two_maps}
use Rattle.typed_values.proofs.TreeLevels.{pair_with, level_with, folded_level}

-- what is meant stands behind the others, where it was written and put there
pub put_behind : {T X E : Type 0} (written : Result T E) (g : T → X) (old new : List X) (meant : T) → IsOkAnd written (λ v. new ≡ old ++ g v ∷ []) → IfOk written (λ v. v ≡ meant) → new ≡ old ++ g meant ∷ []
put_behind (Ok v) g old new meant put is = put ∙ ap (λ w. old ++ g w ∷ []) is
put_behind (Err e) g old new meant put is = absurd put

-- a row of smaller trees is that of what they stand for
module _ {X Y : Type 0} (g : X → Y) where
  members_written-map : (is_none : Y → Bool) (none : X → Bool) (written : Y → Desc → Json) → ((x : X) → is_none (g x) ≡ none x) → (fs : List Field) (xs : List X) → members_written is_none written fs (map g xs) ≡ members_written none (λ x d. written (g x) d) fs xs
  members_written-map is_none none written same [] [] = refl
  members_written-map is_none none written same [] (x ∷ xs) = refl
  members_written-map is_none none written same (f ∷ fs) [] = refl
  members_written-map is_none none written same (f ∷ fs) (x ∷ xs) =
      ap (λ (b : Bool). unless (is_left_out f.presence b) (member f.name (written (g x) (field_desc f))) (members_written is_none written fs (map g xs))) (same x)
      ∙ ap (unless (is_left_out f.presence (none x)) (member f.name (written (g x) (field_desc f)))) (members_written-map is_none none written same fs xs)

  scalar_written-map : (x : TreeOf X) → scalar_written (level_with g x) ≡ scalar_written x
  scalar_written-map x = search rules

  whole_written-map : (x : TreeOf X) → whole_written (level_with g x) ≡ whole_written x
  whole_written-map x = search rules

  is_none_level-map : (x : TreeOf X) → is_none_level (level_with g x) ≡ is_none_level x
  is_none_level-map x = search rules

  listed_written-map : (ns : List Named) (x : TreeOf X) → listed_written ns (level_with g x) ≡ listed_written ns x
  listed_written-map ns x = search rules

  option_written-map : (written : Y → Json) (x : TreeOf X) → option_written written (level_with g x) ≡ option_written (λ x. written (g x)) x
  option_written-map written x = search rules

  items_written-map : (written : Y → Json) (x : TreeOf X) → items_written written (level_with g x) ≡ items_written (λ x. written (g x)) x
  items_written-map written (Tree-F.List xs) = ap Items (two_maps written g (λ x. written (g x)) (λ x. refl) xs)
  items_written-map written _ = refl

  entries_written-map : (written : Y → Json) (x : TreeOf X) → entries_written written (level_with g x) ≡ entries_written (λ x. written (g x)) x
  entries_written-map written (Tree-F.Map ps) = ap Object (two_maps (pair_written written) (pair_with g) (pair_written (λ x. written (g x))) (λ p. refl) ps)
  entries_written-map written _ = refl

  parts_written-map : (is_none : Y → Bool) (none : X → Bool) (written : Y → Desc → Json) → ((x : X) → is_none (g x) ≡ none x) → (fs : List Field) (x : TreeOf X) → parts_written is_none written fs (level_with g x) ≡ parts_written none (λ x d. written (g x) d) fs x
  parts_written-map is_none none written same fs (Tree-F.Fields xs) = ap Object (members_written-map is_none none written same fs xs)
  parts_written-map is_none none written same fs _ = refl

  choice_written-map : (written : Y → Desc → Json) (ds : List Desc) (x : TreeOf X) → choice_written written ds (level_with g x) ≡ choice_written (λ x d. written (g x) d) ds x
  choice_written-map written ds x = search rules

  external_written-map : (written : Y → Desc → Json) (vs : List Variant) (x : TreeOf X) → external_written written vs (level_with g x) ≡ external_written (λ x d. written (g x) d) vs x
  external_written-map written vs x = search rules

  tagged_written-map : (written : Y → Desc → Json) (tag : List ℕ) (vs : List TaggedVariant) (x : TreeOf X) → tagged_written written tag vs (level_with g x) ≡ tagged_written (λ x d. written (g x) d) tag vs x
  tagged_written-map written tag vs x = search rules

  written_by-map : (table : List Definition) (is_none : Y → Bool) (none : X → Bool) (written : Y → Desc → Json) (next : Desc → Json) → ((x : X) → is_none (g x) ≡ none x) → (y : DescLevel) (x : TreeOf X) → written_by table is_none written next y (level_with g x) ≡ written_by table none (λ x d. written (g x) d) next y x
  written_by-map table is_none none written next same Desc-F.Any x = whole_written-map x
  written_by-map table is_none none written next same Desc-F.Never x = refl
  written_by-map table is_none none written next same Desc-F.Null x = refl
  written_by-map table is_none none written next same Desc-F.Bool x = scalar_written-map x
  written_by-map table is_none none written next same Desc-F.Char x = scalar_written-map x
  written_by-map table is_none none written next same (Desc-F.Int kind min max) x = scalar_written-map x
  written_by-map table is_none none written next same (Desc-F.Text min max format) x = scalar_written-map x
  written_by-map table is_none none written next same (Desc-F.Enumeration ns) x = listed_written-map ns x
  written_by-map table is_none none written next same (Desc-F.Option d) x = option_written-map (λ y. written y d) x
  written_by-map table is_none none written next same (Desc-F.List d min max) x = items_written-map (λ y. written y d) x
  written_by-map table is_none none written next same (Desc-F.Map d) x = entries_written-map (λ y. written y d) x
  written_by-map table is_none none written next same (Desc-F.Struct fs deny) x = parts_written-map is_none none written same fs x
  written_by-map table is_none none written next same (Desc-F.External vs) x = external_written-map written vs x
  written_by-map table is_none none written next same (Desc-F.Tagged tag vs) x = tagged_written-map written tag vs x
  written_by-map table is_none none written next same (Desc-F.Untagged ds) x = choice_written-map written ds x
  written_by-map table is_none none written next same (Desc-F.Ref name) x = refl

written_if_there_same : (Next : Desc → Type 0) (f g : Desc → Json) → ((d : Desc) → Next d → f d ≡ g d) → (o : Option Desc) → MatchOption o ⊤ Next → written_if_there f o ≡ written_if_there g o
written_if_there_same Next f g same None h = refl
written_if_there_same Next f g same (Some d) h = same d h

-- what follows a step matters only where that step is one
written_by_same : (table : List Definition) (written : Writing → Desc → Json) (t : TreeOf Writing) (Next : Desc → Type 0) (f g : Desc → Json) → ((d : Desc) → Next d → f d ≡ g d) → (y : DescLevel) → RestsBy table Next y → written_by table is_none_written written f y t ≡ written_by table is_none_written written g y t
written_by_same table written t Next f g same Desc-F.Any h = refl
written_by_same table written t Next f g same Desc-F.Never h = refl
written_by_same table written t Next f g same Desc-F.Null h = refl
written_by_same table written t Next f g same Desc-F.Bool h = refl
written_by_same table written t Next f g same Desc-F.Char h = refl
written_by_same table written t Next f g same (Desc-F.Int kind min max) h = refl
written_by_same table written t Next f g same (Desc-F.Text min max format) h = refl
written_by_same table written t Next f g same (Desc-F.Enumeration ns) h = refl
written_by_same table written t Next f g same (Desc-F.Option d) h = refl
written_by_same table written t Next f g same (Desc-F.List d min max) h = refl
written_by_same table written t Next f g same (Desc-F.Map d) h = refl
written_by_same table written t Next f g same (Desc-F.Struct fs deny) h = refl
written_by_same table written t Next f g same (Desc-F.External vs) h = refl
written_by_same table written t Next f g same (Desc-F.Tagged tag vs) h = refl
written_by_same table written t Next f g same (Desc-F.Untagged ds) h = refl
written_by_same table written t Next f g same (Desc-F.Ref name) h = written_if_there_same Next f g same (definition table name) h

abbrev with_room : ℕ → Writing → Desc → Json
with_room r x d = x.json r d

-- a descriptor that rests after n steps needs no more
written_at_enough : (table : List Definition) (r : ℕ) (t : TreeOf Writing) (n : ℕ) (d : Desc) → Rests table n d → written_at table r t (suc n) d ≡ written_at table r t n d
unfolding Rests written_at
written_at_enough table r t zero d h = absurd h
written_at_enough table r t (suc n) d h = written_by_same table (with_room r) t (Rests table n) (written_at table r t (suc n)) (written_at table r t n) (written_at_enough table r t n) (out-Desc d) h

abbrev pub is_none_tree : Tree → Bool
is_none_tree t = is_none_level (out-Tree t)

module _ (table : List Definition) (whole : Desc) (t : Tree) where
  abbrev tree_written : TreeOf Writing
  tree_written = level_with (writing table (room table whole)) (out-Tree t)

  written_level : (d : Desc) → written_under table whole t d ≡ written_at table (room table whole) tree_written (room table whole) d
  unfolding written_under
  written_level d = ap (λ (w : Writing). w.json (room table whole) d) (folded_level (writing_step table (room table whole)) t)

  pub none_written : (writing table (room table whole) t).is_none ≡ is_none_tree t
  none_written = ap (λ (w : Writing). w.is_none) (folded_level (writing_step table (room table whole)) t) ∙ is_none_level-map (writing table (room table whole)) (out-Tree t)

  written_more : (m : ℕ) → room table whole ≡ suc m → (d : Desc) → Rests table m d → written_at table (room table whole) tree_written m d ≡ written_under table whole t d
  written_more m e d h =
      sym (written_at_enough table (room table whole) tree_written m d h)
      ∙ ap (λ (n : ℕ). written_at table (room table whole) tree_written n d) (sym e)
      ∙ sym (written_level d)

  written_step : (d : Desc) → Rests table (room table whole) d → written_under table whole t d ≡ written_by table is_none_written (with_room (room table whole)) (written_under table whole t) (out-Desc d) tree_written
  unfolding Rests written_at
  written_step d h = go (room table whole) refl h
    where
      go : (n : ℕ) → room table whole ≡ n → Rests table n d → written_under table whole t d ≡ written_by table is_none_written (with_room (room table whole)) (written_under table whole t) (out-Desc d) tree_written
      go zero e h = absurd h
      go (suc m) e h =
          written_level d
          ∙ ap (λ (n : ℕ). written_at table (room table whole) tree_written n d) e
          ∙ written_by_same table (with_room (room table whole)) tree_written (Rests table m) (written_at table (room table whole) tree_written m) (written_under table whole t) (written_more m e) (out-Desc d) h

module _ (table : List Definition) (whole : Desc) (t : Tree) where
  -- the row of a descriptor, with no steps
  pub written_row : (d : Desc) → Rests table (room table whole) d → written_under table whole t d ≡ written_by table is_none_tree (written_under table whole) (written_under table whole t) (out-Desc d) (out-Tree t)
  unfolding written_under
  written_row d h =
      written_step table whole t d h
      ∙ written_by-map (writing table (room table whole)) table is_none_written is_none_tree (with_room (room table whole)) (written_under table whole t) (none_written table whole) (out-Desc d) (out-Tree t)

  -- the tree of a field that may be skipped, whose descriptor is an option of no table
  pub skipped_written : (d : Desc) → written_under table whole t (OptionOf d) ≡ option_written (λ x. written_under table whole x d) (out-Tree t)
  unfolding written_at written_under room
  skipped_written d =
      written_level table whole t (OptionOf d)
      ∙ ap (λ (y : DescLevel). written_by table is_none_written (with_room (room table whole)) (written_at table (room table whole) (tree_written table whole t) (nodes_of_table table + nodes whole)) y (tree_written table whole t)) (outs-Option d)
      ∙ option_written-map (writing table (room table whole)) (λ x. x.json (room table whole) d) (out-Tree t)

  -- the tree of a tagged variant, whose struct is one of no table
  pub struct_written : (fs : List Field) (deny : Bool) → written_under table whole t (StructOf fs deny) ≡ parts_written is_none_tree (written_under table whole) fs (out-Tree t)
  unfolding written_at written_under room
  struct_written fs deny =
      written_level table whole t (StructOf fs deny)
      ∙ ap (λ (y : DescLevel). written_by table is_none_written (with_room (room table whole)) (written_at table (room table whole) (tree_written table whole t) (nodes_of_table table + nodes whole)) y (tree_written table whole t)) (outs-Struct fs deny)
      ∙ parts_written-map (writing table (room table whole)) is_none_written is_none_tree (with_room (room table whole)) (none_written table whole) fs (out-Tree t)
