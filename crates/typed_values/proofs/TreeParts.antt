-- What holds of each tree that it holds of the parts of.
use Rattle.std.proofs.Common.{List, [], ◌∷◌, map, sym, subst}
use Rattle.std.specs.List.{AllByRecursion}
use Rattle.std.specs.Prelude.{⊤}
use Rattle.descriptors.specs.declared.tree.Pair.{Pair}
use Rattle.descriptors.specs.declared.tree.Tree.{Tree, out-Tree}
use Rattle.descriptors.specs.declared.tree.Tree.TheFolds.{ind-Tree, map-Tree}
use Rattle.descriptors.specs.declared.tree.Tree.TheOpen.{Tree-F, Pair-F}
use Rattle.descriptors.specs.declared.tree.Tree.TheViews.{roll-Tree, out-roll-Tree}
use Rattle.typed_values.specs.Levels.{TreeOf}

module _ (P : Tree → Type 0) where
  abbrev pub OfParts : TreeOf Tree → Type 0
  OfParts (Tree-F.Some t) = P t
  OfParts (Tree-F.List ts) = AllByRecursion P ts
  OfParts (Tree-F.Map ps) = AllByRecursion (λ p. P p.value) ps
  OfParts (Tree-F.Fields ts) = AllByRecursion P ts
  OfParts (Tree-F.Variant i t) = P t
  OfParts _ = ⊤

  abbrev Item : Type 0
  Item = (t : Tree) × P t

  abbrev PairItem : Type 0
  PairItem = (p : Pair) × P p.value

  abbrev plain : Tree-F Item PairItem → TreeOf Tree
  plain = map-Tree Item PairItem Tree Pair (λ e. e.0) (λ e. e.0)

  of_items : (es : List Item) → AllByRecursion P (map (λ e. e.0) es)
  of_items [] = tt
  of_items (e ∷ es) = (e.1, of_items es)

  of_pairs : (es : List PairItem) → AllByRecursion (λ p. P p.value) (map (λ e. e.0) es)
  of_pairs [] = tt
  of_pairs (e ∷ es) = (e.1, of_pairs es)

  of_parts : (y : Tree-F Item PairItem) → OfParts (plain y)
  of_parts (Tree-F.Some e) = e.1
  of_parts (Tree-F.List es) = of_items es
  of_parts (Tree-F.Map es) = of_pairs es
  of_parts (Tree-F.Fields es) = of_items es
  of_parts (Tree-F.Variant i e) = e.1
  of_parts _ = tt

  module _ (step : (t : Tree) → OfParts (out-Tree t) → P t) where
    of_level : (y : Tree-F Item PairItem) → P (roll-Tree (plain y))
    of_level y = step (roll-Tree (plain y)) (subst OfParts (sym (out-roll-Tree (plain y))) (of_parts y))

    pub by_parts : (t : Tree) → P t
    by_parts = ind-Tree P (λ p. P p.value) (λ x y is. subst (λ (z : TreeOf Tree). P (roll-Tree z)) is (of_level y)) (λ x y is. subst (λ (z : Pair-F Tree Pair). P z.value) is y.value.1)

-- what follows from it for each tree follows for the parts
module _ {P Q : Tree → Type 0} (weaker : (t : Tree) → P t → Q t) where
  each_weaker : (ts : List Tree) → AllByRecursion P ts → AllByRecursion Q ts
  each_weaker [] h = tt
  each_weaker (t ∷ ts) h = (weaker t h.0, each_weaker ts h.1)

  values_weaker : (ps : List Pair) → AllByRecursion (λ p. P p.value) ps → AllByRecursion (λ p. Q p.value) ps
  values_weaker [] h = tt
  values_weaker (p ∷ ps) h = (weaker p.value h.0, values_weaker ps h.1)

  pub parts_weaker : (x : TreeOf Tree) → OfParts P x → OfParts Q x
  parts_weaker (Tree-F.Some t) h = weaker t h
  parts_weaker (Tree-F.List ts) h = each_weaker ts h
  parts_weaker (Tree-F.Map ps) h = values_weaker ps h
  parts_weaker (Tree-F.Fields ts) h = each_weaker ts h
  parts_weaker (Tree-F.Variant i t) h = weaker t h
  parts_weaker _ h = tt
