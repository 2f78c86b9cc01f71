-- What each error tells, and which is told first.
use Rattle.std.specs.Prelude.{◌≡◌, ℕ, ◌<◌, List, Some, Contains, slice_get}
use Rattle.std.specs.Str.{chars}
use Rattle.typed_values.specs.declared.check.TableError.{TableError}
use Rattle.typed_values.specs.declared.check.TableError.TheVariants.{DoubledName, BadName, Dangling, Unguarded, EmptyEnumeration, NullOfNull, TagClash, BadRange, BadPresence}
use Rattle.descriptors.specs.declared.desc.Desc.{Desc}
use Rattle.descriptors.specs.declared.table.Definition.{Definition}
use Rattle.typed_values.specs.Checks.{HasDoubledName, IsName, IsDangling, IsEmptyChoice, IsNullOfNull, HasTagClash, HasBadRange, HasBadPresence}
use Rattle.typed_values.specs.Guarded.{LiesOnCycle}
use Rattle.typed_values.specs.Parts.{StandsIn}

-- a fact holds of some descriptor that stands in a whole one
abbrev pub SomePart : (Desc → Type 0) → Desc → Type 0
SomePart P whole = (d : Desc) × StandsIn whole d × P d

-- what an error tells of a descriptor
abbrev pub Tells : TableError → List Definition → Desc → Type 0
Tells DoubledName table d = HasDoubledName d
Tells BadName table d = ⊥
Tells Dangling table d = IsDangling table d
Tells (Unguarded name) table d = ⊥
Tells EmptyEnumeration table d = IsEmptyChoice d
Tells NullOfNull table d = IsNullOfNull table d
Tells TagClash table d = HasTagClash d
Tells BadRange table d = HasBadRange d
Tells BadPresence table d = HasBadPresence table d

-- the first definition that lies on a cycle
pub record IsFirstOnCycle (table : List Definition) (e : Definition) : Type 0 where
  pub place : ℕ
  pub found : slice_get table place ≡ Some e
  pub cycle : LiesOnCycle table e
  pub first : (k : ℕ) (other : Definition) → k < place → slice_get table k ≡ Some other → LiesOnCycle table other → ⊥

-- an error applies to a whole descriptor
abbrev pub AppliesToDesc : List Definition → Desc → TableError → Type 0
AppliesToDesc table desc error = SomePart (Tells error table) desc

-- an error applies to a table
abbrev pub AppliesToTable : List Definition → TableError → Type 0
AppliesToTable table BadName = (e : Definition) × Contains table e × (IsName e.name → ⊥)
AppliesToTable table (Unguarded name) = (e : Definition) × IsFirstOnCycle table e × (e.name ≡ chars name.now)
AppliesToTable table error = (e : Definition) × Contains table e × AppliesToDesc table e.desc error

-- the order in which errors are told
abbrev pub order : TableError → ℕ
order DoubledName = 0
order BadName = 1
order Dangling = 2
order (Unguarded name) = 3
order EmptyEnumeration = 4
order NullOfNull = 5
order TagClash = 6
order BadRange = 7
order BadPresence = 8

-- an error applies, and none that is told before it
pub record IsFirst (Applies : TableError → Type 0) (error : TableError) : Type 0 where
  pub applies : Applies error
  pub none_before : (other : TableError) → order other < order error → Applies other → ⊥
