-- One level of a tree, where each smaller tree stands as what a fold makes of it.
use Rattle.std.proofs.Common.{◌≡◌, List, [], ◌∷◌, map, refl, ap, ap₂, ◌∙◌}
use Rattle.descriptors.specs.declared.tree.Pair.{Pair}
use Rattle.descriptors.specs.declared.tree.Tree.{Tree, out-Tree}
use Rattle.descriptors.specs.declared.tree.Tree.TheFolds.{fold-Tree, fold-Pair, fold_out-Tree, fold_out-Pair, map-Tree}
use Rattle.descriptors.specs.declared.tree.Tree.TheOpen.{Tree-F}
use Rattle.typed_values.specs.Levels.{TreeOf, PairOf, same_pair}

abbrev pub pair_with : {X Y : Type 0} → (X → Y) → PairOf X → PairOf Y
pair_with f p = record { key = p.key; value = f p.value }

abbrev pub level_with : {X Y : Type 0} → (X → Y) → TreeOf X → TreeOf Y
level_with {X} {Y} f = map-Tree X (PairOf X) Y (PairOf Y) f (pair_with f)

module _ {X : Type 0} (step : TreeOf X → X) where
  abbrev folded : Tree → X
  folded = fold-Tree X (PairOf X) step same_pair

  abbrev folded_pair : Pair → PairOf X
  folded_pair = fold-Pair X (PairOf X) step same_pair

  pairs_are : (ps : List Pair) → map folded_pair ps ≡ map (pair_with folded) ps
  pairs_are [] = refl
  pairs_are (p ∷ ps) = ap₂ (λ (a : PairOf X) (l : List (PairOf X)). a ∷ l) (fold_out-Pair X (PairOf X) step same_pair p) (pairs_are ps)

  level_is : (x : TreeOf Tree) → map-Tree Tree Pair X (PairOf X) folded folded_pair x ≡ level_with folded x
  level_is Tree-F.Unit = refl
  level_is (Tree-F.Bool b) = refl
  level_is (Tree-F.Int n) = refl
  level_is (Tree-F.Text t) = refl
  level_is Tree-F.None = refl
  level_is (Tree-F.Some x) = refl
  level_is (Tree-F.List xs) = refl
  level_is (Tree-F.Map ps) = ap Tree-F.Map (pairs_are ps)
  level_is (Tree-F.Fields xs) = refl
  level_is (Tree-F.Variant i x) = refl
  level_is (Tree-F.Any j) = refl

  -- what a fold makes of a tree is what its step makes of its level
  pub folded_level : (t : Tree) → folded t ≡ step (level_with folded (out-Tree t))
  folded_level t = fold_out-Tree X (PairOf X) step same_pair t ∙ ap step (level_is (out-Tree t))
