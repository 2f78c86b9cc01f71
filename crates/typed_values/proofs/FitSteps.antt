-- On a sound table the steps are never spent: each row of what fits holds with no steps in it.
use Rattle.std.proofs.Common.{rules, ◌≡◌, ℕ, zero, suc, ◌+◌, Bool, ◌&&◌, List, [], ◌∷◌, map, Option, Some, None, refl, sym, ◌∙◌, ap, ap₂, MatchOption}
use Rattle.std.proofs.lemmas.List.{length-map}
use Rattle.std.specs.Prelude.{⊤}
use Rattle.descriptors.specs.declared.desc.Desc.{Desc, Null as NullDesc, Option as OptionOf, Struct as StructOf, out-Desc}
use Rattle.descriptors.specs.declared.desc.Desc.TheOpen.{Desc-F}
use Rattle.descriptors.specs.declared.desc.Desc.TheVariants.{outs-Null, outs-Option, outs-Struct}
use Rattle.descriptors.specs.declared.desc.Field.{Field}
use Rattle.descriptors.specs.declared.desc.IntKind.{IntKind}
use Rattle.descriptors.specs.declared.desc.Named.{Named}
use Rattle.descriptors.specs.declared.tree.Tree.{Tree, out-Tree}
use Rattle.descriptors.specs.declared.tree.Tree.TheOpen.{Tree-F}
use Rattle.descriptors.specs.declared.table.Definition.{Definition}
use Rattle.typed_values.specs.Bounds.{is_length_within}
use Rattle.descriptors.specs.Definitions.{definition}
use Rattle.typed_values.specs.Denotes.{room, nodes, nodes_of_table}
use Rattle.typed_values.specs.Fits.{Fitting, whole_fits, nought_fits, truth_fits, number_fits, words_fit, character_fits, name_fits, option_fits, each_fits, items_fit, are_ascending, key_of, entries_fit, field_desc, fields_fit, parts_fit, if_there, choice_fits, payload_of, struct_of, fits_by, fits_at, fits_within, fits_under}
use Rattle.typed_values.specs.Levels.{DescLevel, TreeOf, PairOf}
use Rattle.typed_values.specs.Resting.{RestsBy, Rests}
use Rattle.typed_values.proofs.TreeLevels.{pair_with, level_with, folded_level}

-- a row of smaller trees is that of what they stand for
module _ {X Y : Type 0} (g : X → Y) where
  each_fits-map : (fits : Y → Bool) (xs : List X) → each_fits fits (map g xs) ≡ each_fits (λ x. fits (g x)) xs
  each_fits-map fits [] = refl
  each_fits-map fits (x ∷ xs) = ap (λ (b : Bool). fits (g x) && b) (each_fits-map fits xs)

  fields_fit-map : (fits : Y → Desc → Bool) (fs : List Field) (xs : List X) → fields_fit fits fs (map g xs) ≡ fields_fit (λ x d. fits (g x) d) fs xs
  fields_fit-map fits [] [] = refl
  fields_fit-map fits [] (x ∷ xs) = refl
  fields_fit-map fits (f ∷ fs) [] = refl
  fields_fit-map fits (f ∷ fs) (x ∷ xs) = ap (λ (b : Bool). fits (g x) (field_desc f) && b) (fields_fit-map fits fs xs)

  truth_fits-map : (x : TreeOf X) → truth_fits (level_with g x) ≡ truth_fits x
  truth_fits-map x = search rules

  nought_fits-map : (x : TreeOf X) → nought_fits (level_with g x) ≡ nought_fits x
  nought_fits-map x = search rules

  whole_fits-map : (x : TreeOf X) → whole_fits (level_with g x) ≡ whole_fits x
  whole_fits-map x = search rules

  character_fits-map : (x : TreeOf X) → character_fits (level_with g x) ≡ character_fits x
  character_fits-map x = search rules

  number_fits-map : (kind : IntKind) (min max : Option _) (x : TreeOf X) → number_fits kind min max (level_with g x) ≡ number_fits kind min max x
  number_fits-map kind min max x = search rules

  words_fit-map : (min max : Option ℕ) (x : TreeOf X) → words_fit min max (level_with g x) ≡ words_fit min max x
  words_fit-map min max x = search rules

  name_fits-map : (is_nought : Y → Bool) (ns : List Named) (x : TreeOf X) → name_fits is_nought ns (level_with g x) ≡ name_fits (λ x. is_nought (g x)) ns x
  name_fits-map is_nought ns x = search rules

  option_fits-map : (fits : Y → Bool) (x : TreeOf X) → option_fits fits (level_with g x) ≡ option_fits (λ x. fits (g x)) x
  option_fits-map fits x = search rules

  items_fit-map : (fits : Y → Bool) (min max : Option ℕ) (x : TreeOf X) → items_fit fits min max (level_with g x) ≡ items_fit (λ x. fits (g x)) min max x
  items_fit-map fits min max (Tree-F.List xs) =
      ap₂ (λ (n : ℕ) (b : Bool). is_length_within min max n && b) (length-map xs g) (each_fits-map fits xs)
  items_fit-map fits min max _ = refl

  keys-map : (ps : List (PairOf X)) → map key_of (map (pair_with g) ps) ≡ map key_of ps
  keys-map [] = refl
  keys-map (p ∷ ps) = ap (λ (keys : List (List ℕ)). p.key ∷ keys) (keys-map ps)

  values_fit-map : (fits : Y → Bool) (ps : List (PairOf X)) → each_fits (λ p. fits p.value) (map (pair_with g) ps) ≡ each_fits (λ p. fits (g p.value)) ps
  values_fit-map fits [] = refl
  values_fit-map fits (p ∷ ps) = ap (λ (b : Bool). fits (g p.value) && b) (values_fit-map fits ps)

  entries_fit-map : (fits : Y → Bool) (x : TreeOf X) → entries_fit fits (level_with g x) ≡ entries_fit (λ x. fits (g x)) x
  entries_fit-map fits (Tree-F.Map ps) = ap₂ (λ (keys : List (List ℕ)) (b : Bool). are_ascending keys && b) (keys-map ps) (values_fit-map fits ps)
  entries_fit-map fits _ = refl

  parts_fit-map : (fits : Y → Desc → Bool) (fs : List Field) (x : TreeOf X) → parts_fit fits fs (level_with g x) ≡ parts_fit (λ x d. fits (g x) d) fs x
  parts_fit-map fits fs (Tree-F.Fields xs) = fields_fit-map fits fs xs
  parts_fit-map fits fs _ = refl

  choice_fits-map : (fits : Y → Desc → Bool) (ds : List Desc) (x : TreeOf X) → choice_fits fits ds (level_with g x) ≡ choice_fits (λ x d. fits (g x) d) ds x
  choice_fits-map fits ds x = search rules

  fits_by-map : (table : List Definition) (fits : Y → Desc → Bool) (next : Desc → Bool) (y : DescLevel) (x : TreeOf X) → fits_by table fits next y (level_with g x) ≡ fits_by table (λ x d. fits (g x) d) next y x
  fits_by-map table fits next Desc-F.Any x = whole_fits-map x
  fits_by-map table fits next Desc-F.Never x = refl
  fits_by-map table fits next Desc-F.Null x = nought_fits-map x
  fits_by-map table fits next Desc-F.Bool x = truth_fits-map x
  fits_by-map table fits next Desc-F.Char x = character_fits-map x
  fits_by-map table fits next (Desc-F.Int kind min max) x = number_fits-map kind min max x
  fits_by-map table fits next (Desc-F.Text min max format) x = words_fit-map min max x
  fits_by-map table fits next (Desc-F.Enumeration ns) x = name_fits-map (λ y. fits y NullDesc) ns x
  fits_by-map table fits next (Desc-F.Option d) x = option_fits-map (λ y. fits y d) x
  fits_by-map table fits next (Desc-F.List d min max) x = items_fit-map (λ y. fits y d) min max x
  fits_by-map table fits next (Desc-F.Map d) x = entries_fit-map (λ y. fits y d) x
  fits_by-map table fits next (Desc-F.Struct fs deny) x = parts_fit-map fits fs x
  fits_by-map table fits next (Desc-F.External vs) x = choice_fits-map fits (map payload_of vs) x
  fits_by-map table fits next (Desc-F.Tagged tag vs) x = choice_fits-map fits (map struct_of vs) x
  fits_by-map table fits next (Desc-F.Untagged ds) x = choice_fits-map fits ds x
  fits_by-map table fits next (Desc-F.Ref name) x = refl

if_there_same : (Next : Desc → Type 0) (f g : Desc → Bool) → ((d : Desc) → Next d → f d ≡ g d) → (o : Option Desc) → MatchOption o ⊤ Next → if_there f o ≡ if_there g o
if_there_same Next f g same None h = refl
if_there_same Next f g same (Some d) h = same d h

-- what follows a step matters only where that step is one
fits_by_same : (table : List Definition) (fits : Fitting → Desc → Bool) (t : TreeOf Fitting) (Next : Desc → Type 0) (f g : Desc → Bool) → ((d : Desc) → Next d → f d ≡ g d) → (y : DescLevel) → RestsBy table Next y → fits_by table fits f y t ≡ fits_by table fits g y t
fits_by_same table fits t Next f g same Desc-F.Any h = refl
fits_by_same table fits t Next f g same Desc-F.Never h = refl
fits_by_same table fits t Next f g same Desc-F.Null h = refl
fits_by_same table fits t Next f g same Desc-F.Bool h = refl
fits_by_same table fits t Next f g same Desc-F.Char h = refl
fits_by_same table fits t Next f g same (Desc-F.Int kind min max) h = refl
fits_by_same table fits t Next f g same (Desc-F.Text min max format) h = refl
fits_by_same table fits t Next f g same (Desc-F.Enumeration ns) h = refl
fits_by_same table fits t Next f g same (Desc-F.Option d) h = refl
fits_by_same table fits t Next f g same (Desc-F.List d min max) h = refl
fits_by_same table fits t Next f g same (Desc-F.Map d) h = refl
fits_by_same table fits t Next f g same (Desc-F.Struct fs deny) h = refl
fits_by_same table fits t Next f g same (Desc-F.External vs) h = refl
fits_by_same table fits t Next f g same (Desc-F.Tagged tag vs) h = refl
fits_by_same table fits t Next f g same (Desc-F.Untagged ds) h = refl
fits_by_same table fits t Next f g same (Desc-F.Ref name) h = if_there_same Next f g same (definition table name) h

-- a descriptor that rests after n steps needs no more
fits_at_enough : (table : List Definition) (r : ℕ) (t : TreeOf Fitting) (n : ℕ) (d : Desc) → Rests table n d → fits_at table r t (suc n) d ≡ fits_at table r t n d
unfolding Rests fits_at
fits_at_enough table r t zero d h = absurd h
fits_at_enough table r t (suc n) d h = fits_by_same table (λ x e. x r e) t (Rests table n) (fits_at table r t (suc n)) (fits_at table r t n) (fits_at_enough table r t n) (out-Desc d) h

module _ (table : List Definition) (whole : Desc) (t : Tree) where
  abbrev tree_level : TreeOf Fitting
  tree_level = level_with (fits_within table (room table whole)) (out-Tree t)

  fits_level : (d : Desc) → fits_under table whole t d ≡ fits_at table (room table whole) tree_level (room table whole) d
  unfolding fits_under
  fits_level d = ap (λ (f : Fitting). f (room table whole) d) (folded_level (fits_at table (room table whole)) t)

  fits_more : (m : ℕ) → room table whole ≡ suc m → (d : Desc) → Rests table m d → fits_at table (room table whole) tree_level m d ≡ fits_under table whole t d
  fits_more m e d h =
      sym (fits_at_enough table (room table whole) tree_level m d h)
      ∙ ap (λ (n : ℕ). fits_at table (room table whole) tree_level n d) (sym e)
      ∙ sym (fits_level d)

  fits_step : (d : Desc) → Rests table (room table whole) d → fits_under table whole t d ≡ fits_by table (λ x e. x (room table whole) e) (fits_under table whole t) (out-Desc d) tree_level
  unfolding Rests fits_at
  fits_step d h = go (room table whole) refl h
    where
      go : (n : ℕ) → room table whole ≡ n → Rests table n d → fits_under table whole t d ≡ fits_by table (λ x e. x (room table whole) e) (fits_under table whole t) (out-Desc d) tree_level
      go zero e h = absurd h
      go (suc m) e h =
          fits_level d
          ∙ ap (λ (n : ℕ). fits_at table (room table whole) tree_level n d) e
          ∙ fits_by_same table (λ x e. x (room table whole) e) tree_level (Rests table m) (fits_at table (room table whole) tree_level m) (fits_under table whole t) (fits_more m e) (out-Desc d) h

  -- the row of a descriptor, with no steps
  pub fits_row : (d : Desc) → Rests table (room table whole) d → fits_under table whole t d ≡ fits_by table (fits_under table whole) (fits_under table whole t) (out-Desc d) (out-Tree t)
  unfolding fits_under
  fits_row d h = fits_step d h ∙ fits_by-map (fits_within table (room table whole)) table (λ x e. x (room table whole) e) (fits_under table whole t) (out-Desc d) (out-Tree t)

  -- the tree beside a name's place, whose descriptor is one of no table
  pub nought_row : fits_under table whole t NullDesc ≡ nought_fits (out-Tree t)
  unfolding fits_at fits_under room
  nought_row =
      fits_level NullDesc
      ∙ ap (λ (y : DescLevel). fits_by table (λ x e. x (room table whole) e) (fits_at table (room table whole) tree_level (nodes_of_table table + nodes whole)) y tree_level) outs-Null
      ∙ nought_fits-map (fits_within table (room table whole)) (out-Tree t)

  -- the tree of a field that may be skipped, whose descriptor is an option of no table
  pub skipped_row : (d : Desc) → fits_under table whole t (OptionOf d) ≡ option_fits (λ x. fits_under table whole x d) (out-Tree t)
  unfolding fits_at fits_under room
  skipped_row d =
      fits_level (OptionOf d)
      ∙ ap (λ (y : DescLevel). fits_by table (λ x e. x (room table whole) e) (fits_at table (room table whole) tree_level (nodes_of_table table + nodes whole)) y tree_level) (outs-Option d)
      ∙ option_fits-map (fits_within table (room table whole)) (λ x. x (room table whole) d) (out-Tree t)

  -- the tree of a tagged variant, whose struct is one of no table
  pub struct_row : (fs : List Field) (deny : Bool) → fits_under table whole t (StructOf fs deny) ≡ parts_fit (fits_under table whole) fs (out-Tree t)
  unfolding fits_at fits_under room
  struct_row fs deny =
      fits_level (StructOf fs deny)
      ∙ ap (λ (y : DescLevel). fits_by table (λ x e. x (room table whole) e) (fits_at table (room table whole) tree_level (nodes_of_table table + nodes whole)) y tree_level) (outs-Struct fs deny)
      ∙ parts_fit-map (fits_within table (room table whole)) (λ x e. x (room table whole) e) fs (out-Tree t)
