-- What adding a definition does to a table.
use Rattle.std.specs.Prelude.{◌≡◌, ◌≢◌, ⊤, List, [], ◌∷◌, ◌++◌, Some, None}
use Rattle.descriptors.specs.declared.table.Definition.{Definition}
use Rattle.descriptors.specs.declared.table.Added.{Added}
use Rattle.descriptors.specs.declared.table.Added.TheVariants.{New, Same}
use Rattle.descriptors.specs.declared.table.AddError.{AddError}
use Rattle.descriptors.specs.declared.table.AddError.TheVariants.{Clash, OutOfMemory}
use Rattle.descriptors.specs.Definitions.{entry_of}

-- a new name comes last, and a definition that is there stays
abbrev pub Adds : List Definition → List Definition → Definition → Added → Type 0
Adds old new e New = (entry_of old e.name ≡ None) × (new ≡ old ++ e ∷ [])
Adds old new e Same = (entry_of old e.name ≡ Some e) × (new ≡ old)

-- the name is there with another descriptor or description
abbrev pub Clashes : List Definition → Definition → Type 0
Clashes old e = (other : Definition) × (entry_of old e.name ≡ Some other) × (other ≢ e)

-- a clash tells the name
abbrev pub IsRefused : List Definition → Definition → AddError → Type 0
IsRefused old e (Clash name) = (name ≡ e.name) × Clashes old e
IsRefused old e OutOfMemory = ⊤
