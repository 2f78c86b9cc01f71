-- The store that the sample begins with.
use Rattle.std.specs.Prelude.{ℕ, pos, true, List, [], ◌∷◌, codes}
use Rattle.descriptors.specs.declared.tree.Tree.{Tree}
use Rattle.descriptors.specs.declared.tree.Tree.TheVariants as trees
use Rattle.tree_store.specs.Tables.{Tables}
use Rattle.sample_types.specs.Types.{point_tree}

-- a point of this label and number, which is on
abbrev pub numbered : List ℕ → ℕ → Tree
numbered label n = point_tree label (trees.Int (pos n)) (trees.Bool true)

-- the points p1 to p4
abbrev pub first_tables : Tables
first_tables = (
  codes "points",
  (codes "p1", numbered (codes "p1") 1)
      ∷ (codes "p2", numbered (codes "p2") 2)
      ∷ (codes "p3", numbered (codes "p3") 3)
      ∷ (codes "p4", numbered (codes "p4") 4) ∷ [],
) ∷ []
