-- What a type says of itself: its descriptor, the definitions behind it, and the trees of its values.
use Rattle.std.specs.Prelude.{◌≡◌, ◌↔◌, ℕ, List, map, Some, Contains}
use Rattle.descriptors.specs.declared.desc.Desc.{Desc}
use Rattle.descriptors.specs.declared.table.Definition.{Definition}
use Rattle.descriptors.specs.declared.tree.Tree.{Tree}
use Rattle.typed_values.specs.Checks.{TablePasses, DescPasses}
use Rattle.descriptors.specs.Definitions.{entry_of, definition_name}
use Rattle.typed_values.specs.Fits.{Fits}
use Rattle.typed_values.specs.Reached.{IsReached}

-- a table has each of some definitions under its name
abbrev pub HoldsAll : List Definition → List Definition → Type 0
HoldsAll table ds = (e : Definition) → Contains ds e → entry_of table e.name ≡ Some e

-- a table has some definitions, and passes its checks with a descriptor
pub record IsTableOf (ds : List Definition) (desc : Desc) (table : List Definition) : Type 0 where
  pub holds : HoldsAll table ds
  pub table_passes : TablePasses table
  pub desc_passes : DescPasses table desc

-- a tree is a value of a descriptor in each such table
abbrev pub FitsEach : List Definition → Desc → Tree → Type 0
FitsEach ds desc tree = (table : List Definition) → IsTableOf ds desc table → Fits table desc tree

-- a tree is a value of a descriptor in one such table
abbrev pub FitsOne : List Definition → Desc → Tree → Type 0
FitsOne ds desc tree = (table : List Definition) × IsTableOf ds desc table × Fits table desc tree

-- in each table that has some definitions, a descriptor reaches the names of these and no other
abbrev pub ReachesExactly : List Definition → Desc → Type 0
ReachesExactly ds desc = (table : List Definition) → HoldsAll table ds → (name : List ℕ) → IsReached table desc name ↔ Contains (map definition_name ds) name
