-- The derived comparison of trees tells whether they are equal.
use Rattle.std.proofs.Common.{◌≡◌, ◌↔◌, IsTrue, ◌∙◌, Bool, true, ◌&&◌, map, nat_eq, bytes_eq, refl, sym, ap, subst}
use Rattle.std.specs.Bool.{beq}
use Rattle.std.specs.Cmp.Lexicographic.{pointwise}
use Rattle.std.specs.Ordering.{int_eq}
use Rattle.schema_values.proofs.CallerLemmas.{IsSameBy, SameFields, ◌⨾◌, both, same_each, same_value, json_eq, json_eq-tells}
use Rattle.descriptors.specs.contracts.tree.PairEq.TheImpl.Laws as pair_equal
use Rattle.descriptors.specs.contracts.tree.PairPartialEq.TheImpl as pair_test
use Rattle.descriptors.specs.contracts.tree.PairPartialEq.TheImpl.Laws as pair_laws
use Rattle.descriptors.specs.contracts.tree.Tree.{enum}
use Rattle.descriptors.specs.contracts.tree.TreeEq.TheImpl.Laws as tree_equal
use Rattle.descriptors.specs.contracts.tree.TreePartialEq.TheImpl as tree_test
use Rattle.descriptors.specs.contracts.tree.TreePartialEq.TheImpl.Laws as tree_laws
use Rattle.descriptors.specs.declared.tree.Pair.{Pair}
use Rattle.descriptors.specs.declared.tree.Tree.{Tree}
use Rattle.descriptors.specs.declared.tree.Tree.TheBlock.{split-Tree, the_members, the_sigs, the_carrier}
use Rattle.descriptors.specs.declared.tree.Tree.TheFolds.{ind-Tree, ind-Pair, map-Tree, map-Pair}
use Rattle.descriptors.specs.declared.tree.Tree.TheOpen.{Tree-F, Pair-F}
use Rattle.descriptors.specs.declared.tree.Tree.TheViews.{roll-Tree, roll-Pair, out-roll-Tree}
use Rattle.descriptors.proofs.EqualParts.{same_truth, same_count, same_number, same_text}
use denote.Enum.Compared.{Each}
use denote.Enum.Declared.{Choice}
use denote.Hole.Carrier.{Values as Held}

abbrev pub tree_eq : Tree → Tree → Bool
tree_eq = tree_test.ghosts.eq

abbrev pub pair_eq : Pair → Pair → Bool
pair_eq = pair_test.ghosts.eq

abbrev KnownTree : Type 0
KnownTree = (t : Tree) × IsSameBy tree_eq t

abbrev KnownPair : Type 0
KnownPair = (p : Pair) × IsSameBy pair_eq p

-- how two trees of one variant are compared
abbrev each : Each Bool enum.parts
each = (λ a b. true) ⨾ (λ a b. beq a.0 b.0) ⨾ (λ a b. int_eq a.0 b.0) ⨾ (λ a b. bytes_eq a.0 b.0) ⨾ (λ a b. true)
    ⨾ (λ a b. tree_eq a.0 b.0) ⨾ (λ a b. pointwise tree_eq a.0 b.0) ⨾ (λ a b. pointwise pair_eq a.0 b.0) ⨾ (λ a b. pointwise tree_eq a.0 b.0)
    ⨾ (λ a b. nat_eq a.0 b.0 && tree_eq a.1.0 b.1.0) ⨾ (λ a b. json_eq a.0 b.0) ⨾ tt

abbrev parts_of : Tree-F Tree Pair → Choice enum.parts
parts_of level = split-Tree (Held the_members the_sigs the_carrier) level

same_level : (level : Tree-F Tree Pair) → SameFields enum.parts each (parts_of level) → IsSameBy tree_eq (roll-Tree level)
same_level level same other e =
    same_value enum each (roll-Tree level) other (parts_of level) (ap parts_of (out-roll-Tree level)) same (sym (tree_laws.is (roll-Tree level) other) ∙ e)

row : (level : Tree-F KnownTree KnownPair) → IsSameBy tree_eq (roll-Tree (map-Tree KnownTree KnownPair Tree Pair (λ e. e.0) (λ e. e.0) level))
row Tree-F.Unit = same_level Tree-F.Unit (λ v e. refl)
row (Tree-F.Bool b) = same_level (Tree-F.Bool b) (λ v e. ap (λ c. (c, tt)) (same_truth b v.0 e))
row (Tree-F.Int n) = same_level (Tree-F.Int n) (λ v e. ap (λ c. (c, tt)) (same_number n v.0 e))
row (Tree-F.Text t) = same_level (Tree-F.Text t) (λ v e. ap (λ c. (c, tt)) (same_text t v.0 e))
row Tree-F.None = same_level Tree-F.None (λ v e. refl)
row (Tree-F.Some t) = same_level (Tree-F.Some t.0) (λ v e. ap (λ c. (c, tt)) (t.1 v.0 e))
row (Tree-F.List ts) = same_level (Tree-F.List (map (λ e. e.0) ts)) (λ v e. ap (λ c. (c, tt)) (same_each tree_eq ts v.0 e))
row (Tree-F.Map ps) = same_level (Tree-F.Map (map (λ e. e.0) ps)) (λ v e. ap (λ c. (c, tt)) (same_each pair_eq ps v.0 e))
row (Tree-F.Fields ts) = same_level (Tree-F.Fields (map (λ e. e.0) ts)) (λ v e. ap (λ c. (c, tt)) (same_each tree_eq ts v.0 e))
row (Tree-F.Variant place t) = same_level (Tree-F.Variant place t.0) (λ v e.
    let b = both (nat_eq place v.0) (tree_eq t.0 v.1.0) e in
    λ i. (same_count place v.0 b.0 i, (t.1 v.1.0 b.1 i, tt)))
row (Tree-F.Any json) = same_level (Tree-F.Any json) (λ v e. ap (λ c. (c, tt)) ((json_eq-tells json v.0).0 e))

pair_row : (level : Pair-F KnownTree KnownPair) → IsSameBy pair_eq (roll-Pair (map-Pair KnownTree KnownPair Tree Pair (λ e. e.0) (λ e. e.0) level))
pair_row level other e =
    let b = both (bytes_eq level.key other.key) (tree_eq level.value.0 other.value) (sym (pair_laws.is _ other) ∙ e) in
    λ i. record { key = same_text level.key other.key b.0 i; value = level.value.1 other.value b.1 i }

at_tree : (level : Tree-F Tree Pair) (known : Tree-F KnownTree KnownPair) → map-Tree KnownTree KnownPair Tree Pair (λ e. e.0) (λ e. e.0) known ≡ level → IsSameBy tree_eq (roll-Tree level)
at_tree level known is = subst (λ (l : Tree-F Tree Pair). IsSameBy tree_eq (roll-Tree l)) is (row known)

at_pair : (level : Pair-F Tree Pair) (known : Pair-F KnownTree KnownPair) → map-Pair KnownTree KnownPair Tree Pair (λ e. e.0) (λ e. e.0) known ≡ level → IsSameBy pair_eq (roll-Pair level)
at_pair level known is = subst (λ (l : Pair-F Tree Pair). IsSameBy pair_eq (roll-Pair l)) is (pair_row known)

pub same_tree : (t : Tree) → IsSameBy tree_eq t
same_tree = ind-Tree (IsSameBy tree_eq) (IsSameBy pair_eq) at_tree at_pair

pub tree_eq-tells : (t other : Tree) → IsTrue (tree_eq t other) ↔ (t ≡ other)
tree_eq-tells t other = (same_tree t other, λ is. subst (λ (o : Tree). tree_eq t o ≡ true) is (tree_equal.laws-law.refl t))

pub pair_eq-tells : (p other : Pair) → IsTrue (pair_eq p other) ↔ (p ≡ other)
pair_eq-tells p other = (ind-Pair (IsSameBy tree_eq) (IsSameBy pair_eq) at_tree at_pair p other, λ is. subst (λ (o : Pair). pair_eq p o ≡ true) is (pair_equal.laws-law.refl p))
