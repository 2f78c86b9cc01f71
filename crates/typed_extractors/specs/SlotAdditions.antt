-- What asking for slots does to the table of a handler's shape, and why slots are refused.
use Rattle.std.specs.Prelude.{◌⊎◌, ⊤, List, [], ◌∷◌}
use Rattle.descriptors.specs.declared.table.AddError.{AddError}
use Rattle.descriptors.specs.declared.table.Definition.{Definition}
use Rattle.api_types.specs.Additions.{with_all, AreRefused}
use Rattle.api_types.specs.Types.{HoldsAll}

-- the definitions of each of some selectors, put into an empty table, all stand there
abbrev pub HaveTables : List (List Definition) → Type 0
HaveTables [] = ⊤
HaveTables (ds ∷ selectors) = HoldsAll (with_all [] ds) ds × HaveTables selectors

-- the definitions of one of some selectors are refused by an empty table
abbrev pub SomeRefused : List (List Definition) → AddError → Type 0
SomeRefused [] error = ⊥
SomeRefused (ds ∷ selectors) error = AreRefused [] ds error ⊎ SomeRefused selectors error

-- a clash tells the name of the first definition that clashes: among those of the slots in the table, or among those
-- of a selector
abbrev pub AreSlotsRefused : List Definition → List Definition → List (List Definition) → AddError → Type 0
AreSlotsRefused table ds selectors error = AreRefused table ds error ⊎ SomeRefused selectors error
