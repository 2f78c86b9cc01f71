-- The trees of options.
use Rattle.std.specs.Prelude.{Option, Some, None}
use Rattle.descriptors.specs.declared.tree.Tree.{Tree}
use Rattle.descriptors.specs.declared.tree.Tree.TheVariants as trees

-- nothing, or the tree of what is there
abbrev pub option_tree : {T : Type 0} → (T → Tree) → Option T → Tree
option_tree tree_of None = trees.None
option_tree tree_of (Some value) = trees.Some (tree_of value)
