-- The trees of maps.
use Rattle.std.specs.Prelude.{ℕ, List}
use Rattle.descriptors.specs.declared.tree.Pair.{Pair}
use Rattle.descriptors.specs.declared.tree.Tree.{Tree}
use Rattle.typed_values.specs.Denotes.{pair}

-- a key, with the tree of its value
abbrev pub pair_of : {T : Type 0} → (T → Tree) → List ℕ × T → Pair
pair_of tree_of entry = pair entry.0 (tree_of entry.1)

-- the value of a pair
abbrev pub value_of : Pair → Tree
value_of p = p.value
