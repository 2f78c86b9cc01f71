-- A search along references: the definitions met, and the descriptors on the way.
use Rattle.std.specs.Prelude.{◌≡◌, ◌⊎◌, List, [], ◌∷◌, Option, Some, None, ℕ, Contains}
use Rattle.descriptors.specs.declared.desc.Desc.{Desc, out-Desc}
use Rattle.descriptors.specs.declared.desc.Desc.TheOpen.{Desc-F}
use Rattle.descriptors.specs.declared.table.Definition.{Definition}
use Rattle.typed_values.specs.declared.search.Met.{Met}
use Rattle.typed_values.specs.declared.search.Met.TheOpen.{Met-F}
use Rattle.typed_values.specs.declared.search.Met.TheFolds.{fold-Met}
use Rattle.typed_values.specs.declared.search.Path.{Path}
use Rattle.typed_values.specs.declared.search.Path.TheOpen.{Path-F}
use Rattle.typed_values.specs.declared.search.Path.TheFolds.{fold-Path}
use Rattle.typed_values.specs.declared.search.Sought.{Sought}
use Rattle.typed_values.specs.declared.search.Sought.TheVariants.{Name, Null}
use Rattle.descriptors.specs.Definitions.{definition}
use Rattle.typed_values.specs.Guarded.{Names}

-- what takes null at once stands in a descriptor, under alternatives alone: any value, null itself or an option
pub data HoldsNull : Desc → Type 0 where
  any_held : {d : Desc} → out-Desc d ≡ Desc-F.Any → HoldsNull d
  null_held : {d : Desc} → out-Desc d ≡ Desc-F.Null → HoldsNull d
  held_here : {d : Desc} (x : Desc) → out-Desc d ≡ Desc-F.Option x → HoldsNull d
  held_in_alternative : {d : Desc} (ds : List Desc) (x : Desc) → out-Desc d ≡ Desc-F.Untagged ds → Contains ds x → HoldsNull x → HoldsNull d

-- what is sought stands in a descriptor
abbrev pub Meets : Sought → Desc → Type 0
Meets (Name name) d = Names name.now d
Meets Null d = HoldsNull d

-- a chain of references leads from a descriptor to what is sought
pub data Leads (table : List Definition) (sought : Sought) : Desc → Type 0 where
  it_meets : {d : Desc} → Meets sought d → Leads table sought d
  it_names : {d : Desc} (name : List ℕ) (y : Desc) → Names name d → definition table name ≡ Some y → Leads table sought y → Leads table sought d

-- one level, where those before stand as a list
abbrev pub with_met : Met-F (List Definition) → List Definition
with_met m = elim m.before [ None ↦ m.definition.now ∷ [] | Some r ↦ m.definition.now ∷ r.now ]

-- the definitions met, the last first
abbrev pub all_met : Option Met → List Definition
all_met None = []
all_met (Some met) = fold-Met (List Definition) with_met met

-- one level, where those before stand as a list
abbrev pub with_path : Path-F (List Desc) → List Desc
with_path p = elim p.before [ None ↦ p.desc.now ∷ [] | Some r ↦ p.desc.now ∷ r.now ]

-- the descriptors on the way, the last first
abbrev pub on_path : Path → List Desc
on_path = fold-Path (List Desc) with_path

-- a definition of a name is among those met
abbrev pub IsMet : List Definition → List ℕ → Type 0
IsMet met name = (e : Definition) × Contains met e × (e.name ≡ name)

-- each definition that a descriptor names is met
abbrev pub IsDone : List Definition → List Definition → Desc → Type 0
IsDone table met d = (e : Definition) → Contains table e → Names e.name d → IsMet met e.name

-- a definition that a descriptor names, and that is not met
pub record IsNext (table met : List Definition) (d : Desc) (e : Definition) : Type 0 where
  pub found : definition table e.name ≡ Some e.desc
  pub in_table : Contains table e
  pub named : Names e.name d
  pub unmet : IsMet met e.name → ⊥

-- a definition that is met is on the way, or done with
pub record IsSearch (table : List Definition) (sought : Sought) (met : List Definition) (path : List Desc) : Type 0 where
  pub found : (e : Definition) → Contains met e → definition table e.name ≡ Some e.desc
  pub done : (e : Definition) → Contains met e → Contains path e.desc ⊎ ((Meets sought e.desc → ⊥) × IsDone table met e.desc)

-- some descriptor on the way leads to what is sought
abbrev pub SomeLeads : List Definition → Sought → List Desc → Type 0
SomeLeads table sought path = (d : Desc) × Contains path d × Leads table sought d
