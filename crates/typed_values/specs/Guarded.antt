-- What a descriptor leads to through references, options and alternatives alone: at one and the same value.
use Rattle.std.specs.Prelude.{◌≡◌, ℕ, List, Some, Contains}
use Rattle.descriptors.specs.declared.desc.Desc.{Desc, out-Desc}
use Rattle.descriptors.specs.declared.desc.Desc.TheOpen.{Desc-F}
use Rattle.descriptors.specs.declared.table.Definition.{Definition}
use Rattle.descriptors.specs.Definitions.{definition}

-- a reference of a name stands in a descriptor, under options and alternatives alone
pub data Names (name : List ℕ) : Desc → Type 0 where
  named_here : {d : Desc} → out-Desc d ≡ Desc-F.Ref name → Names name d
  named_in_option : {d : Desc} (x : Desc) → out-Desc d ≡ Desc-F.Option x → Names name x → Names name d
  named_in_alternative : {d : Desc} (ds : List Desc) (x : Desc) → out-Desc d ≡ Desc-F.Untagged ds → Contains ds x → Names name x → Names name d

-- a chain of such references leads to a name, through the definitions of a table
pub data Reaches (table : List Definition) (target : List ℕ) : Desc → Type 0 where
  at_once : {d : Desc} → Names target d → Reaches table target d
  through : {d : Desc} (name : List ℕ) (y : Desc) → Names name d → definition table name ≡ Some y → Reaches table target y → Reaches table target d

-- a definition that such a chain leads back to
abbrev pub LiesOnCycle : List Definition → Definition → Type 0
LiesOnCycle table e = Reaches table e.name e.desc

-- no definition lies on a cycle
abbrev pub IsGuarded : List Definition → Type 0
IsGuarded table = (e : Definition) → Contains table e → LiesOnCycle table e → ⊥
