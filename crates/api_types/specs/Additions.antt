-- What adding several definitions does to a table.
use Rattle.std.specs.Prelude.{◌≡◌, ◌++◌, ⊤, List, [], ◌∷◌, Option, Some, None}
use Rattle.descriptors.specs.declared.table.Definition.{Definition}
use Rattle.descriptors.specs.declared.table.AddError.{AddError}
use Rattle.descriptors.specs.declared.table.AddError.TheVariants.{Clash, OutOfMemory}
use Rattle.descriptors.specs.Adding.{Clashes}
use Rattle.descriptors.specs.Definitions.{entry_of}
use Rattle.api_types.specs.Types.{HoldsAll}

-- a definition behind a table that lacks its name
abbrev pub with_missing : Option Definition → List Definition → Definition → List Definition
with_missing None table e = table ++ e ∷ []
with_missing (Some other) table e = table

-- each of some definitions whose name a table lacks is put behind it, in order
abbrev pub with_all : List Definition → List Definition → List Definition
with_all table [] = table
with_all table (e ∷ ds) = with_all (with_missing (entry_of table e.name) table e) ds

-- the first of some definitions whose name is another in the table, or among those before it: none of these clashes, so that each stands once they are added
pub record FirstClash (table ds : List Definition) (e : Definition) : Type 0 where
  pub before : List Definition
  pub behind : List Definition
  pub parts : ds ≡ before ++ e ∷ behind
  pub before_held : HoldsAll (with_all table before) before
  pub clashes : Clashes (with_all table before) e

-- a clash tells the name of the first definition that clashes
abbrev pub AreRefused : List Definition → List Definition → AddError → Type 0
AreRefused table ds (Clash name) = (e : Definition) × (name ≡ e.name) × FirstClash table ds e
AreRefused table ds OutOfMemory = ⊤
