-- Descriptors that reach no place where any JSON value may stand.
use Rattle.std.specs.Prelude.{◌≡◌, ℕ, List, Some}
use Rattle.descriptors.specs.declared.desc.Desc.{Desc, out-Desc}
use Rattle.descriptors.specs.declared.desc.Desc.TheOpen.{Desc-F}
use Rattle.descriptors.specs.declared.table.Definition.{Definition}
use Rattle.descriptors.specs.Definitions.{entry_of}
use Rattle.typed_values.specs.Parts.{StandsIn}
use Rattle.typed_values.specs.Reached.{IsReached}

-- the descriptor takes any JSON value
abbrev pub IsAny : Desc → Type 0
IsAny d = out-Desc d ≡ Desc-F.Any

-- no such descriptor stands in a descriptor, or in a definition that it reaches
pub record ReachesNoAny (table : List Definition) (desc : Desc) : Type 0 where
  pub in_desc : (d : Desc) → StandsIn desc d → IsAny d → ⊥
  pub in_reached : (name : List ℕ) (e : Definition) → IsReached table desc name → entry_of table name ≡ Some e
      → (d : Desc) → StandsIn e.desc d → IsAny d → ⊥
