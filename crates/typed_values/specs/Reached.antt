-- The definitions that a descriptor leads to.
use Rattle.std.specs.Prelude.{◌≡◌, ℕ, List, Some}
use Rattle.descriptors.specs.declared.desc.Desc.{Desc, out-Desc}
use Rattle.descriptors.specs.declared.desc.Desc.TheOpen.{Desc-F}
use Rattle.descriptors.specs.declared.table.Definition.{Definition}
use Rattle.descriptors.specs.Definitions.{entry_of}
use Rattle.typed_values.specs.Parts.{StandsIn}

-- a reference of a name stands in a descriptor
abbrev pub Mentions : Desc → List ℕ → Type 0
Mentions whole name = (d : Desc) × StandsIn whole d × (out-Desc d ≡ Desc-F.Ref name)

-- a name that a descriptor mentions, or that a definition mentions which it reaches
pub data IsReached (table : List Definition) (desc : Desc) : List ℕ → Type 0 where
  directly : (name : List ℕ) → Mentions desc name → IsReached table desc name
  through : (other name : List ℕ) (e : Definition) → IsReached table desc other → entry_of table other ≡ Some e → Mentions e.desc name → IsReached table desc name

-- the descriptor is an untagged union itself
abbrev pub IsUntagged : Desc → Type 0
IsUntagged d = (ds : List Desc) × (out-Desc d ≡ Desc-F.Untagged ds)

-- no untagged union stands in a descriptor, or in a definition that it reaches
pub record ReachesNoUntagged (table : List Definition) (desc : Desc) : Type 0 where
  pub in_desc : (d : Desc) → StandsIn desc d → IsUntagged d → ⊥
  pub in_reached : (name : List ℕ) (e : Definition) → IsReached table desc name → entry_of table name ≡ Some e → (d : Desc) → StandsIn e.desc d → IsUntagged d → ⊥
