-- Why a type has no table.
use Rattle.std.specs.Prelude.{◌≡◌, ⊤, List, []}
use Rattle.std.specs.Str.{chars}
use Rattle.typed_values.specs.declared.check.TableError.{TableError}
use Rattle.typed_values.specs.declared.check.TableError.TheVariants.{DoubledName, BadName, Dangling, Unguarded, EmptyEnumeration, NullOfNull, TagClash, BadRange, BadPresence}
use Rattle.descriptors.specs.declared.desc.Desc.{Desc}
use Rattle.descriptors.specs.declared.table.AddError.{AddError}
use Rattle.descriptors.specs.declared.table.AddError.TheVariants as additions
use Rattle.descriptors.specs.declared.table.Definition.{Definition}
use Rattle.typed_values.specs.Causes.{AppliesToDesc, AppliesToTable, IsFirst}
use Rattle.typed_values.specs.Checks.{TablePasses}
use Rattle.api_types.specs.declared.type_table.Flaw.{Flaw}
use Rattle.api_types.specs.declared.type_table.Flaw.TheVariants as flaws
use Rattle.api_types.specs.declared.type_table.TypeError.{TypeError}
use Rattle.api_types.specs.declared.type_table.TypeError.TheVariants.{Clash, Table, Descriptor, OutOfMemory}
use Rattle.api_types.specs.Additions.{with_all, AreRefused}
use Rattle.api_types.specs.Types.{HoldsAll}

-- what an error of a table or a descriptor tells
abbrev pub flaw_of : TableError → Flaw
flaw_of DoubledName = flaws.DoubledName
flaw_of BadName = flaws.BadName
flaw_of Dangling = flaws.Dangling
flaw_of (Unguarded name) = flaws.Unguarded (chars name.now)
flaw_of EmptyEnumeration = flaws.EmptyEnumeration
flaw_of NullOfNull = flaws.NullOfNull
flaw_of TagClash = flaws.TagClash
flaw_of BadRange = flaws.BadRange
flaw_of BadPresence = flaws.BadPresence

-- a flaw is what the first error that applies tells
abbrev pub IsFirstFlaw : (TableError → Type 0) → Flaw → Type 0
IsFirstFlaw Applies flaw = (error : TableError) × (flaw ≡ flaw_of error) × IsFirst Applies error

-- an error of adding definitions, as one of a type
abbrev pub error_of : AddError → TypeError
error_of (additions.Clash name) = Clash name
error_of additions.OutOfMemory = OutOfMemory

-- of some definitions and a descriptor, the definitions clash, else their table has a flaw, else the descriptor has one beside them
abbrev pub HasNoTable : List Definition → Desc → TypeError → Type 0
HasNoTable ds desc (Clash name) = AreRefused [] ds (additions.Clash name)
HasNoTable ds desc (Table flaw) = HoldsAll (with_all [] ds) ds × IsFirstFlaw (AppliesToTable (with_all [] ds)) flaw
HasNoTable ds desc (Descriptor flaw) = HoldsAll (with_all [] ds) ds × TablePasses (with_all [] ds) × IsFirstFlaw (AppliesToDesc (with_all [] ds) desc) flaw
HasNoTable ds desc OutOfMemory = ⊤
