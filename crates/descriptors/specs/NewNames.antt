-- Where a definition of a new name goes.
use Rattle.std.specs.Prelude.{◌≡◌, ℕ, List, None}
use Rattle.descriptors.specs.declared.table.Definition.{Definition}
use Rattle.descriptors.specs.declared.table.NewName.{NewName}
use Rattle.descriptors.specs.Definitions.{entry_of}
use Rattle.descriptors.specs.Index.{IsGapFor}

-- no definition has the name, and its place goes into the gap
pub record IsNewName (es : List Definition) (places : List ℕ) (name : List ℕ) (fresh : NewName) : Type 0 where
  pub named : fresh.name ≡ name
  pub absent : entry_of es name ≡ None
  pub gap : IsGapFor es places name fresh.gap
