-- What it is for a table to be guarded, in steps: at one value they come to an end.
use Rattle.std.specs.Prelude.{ℕ, zero, suc, ⊤, List, [], ◌∷◌, MatchOption}
use Rattle.descriptors.specs.declared.desc.Desc.{Desc, out-Desc}
use Rattle.descriptors.specs.declared.desc.Desc.TheOpen.{Desc-F}
use Rattle.descriptors.specs.declared.table.Definition.{Definition}
use Rattle.descriptors.specs.Definitions.{definition}
use Rattle.typed_values.specs.Denotes.{room}
use Rattle.typed_values.specs.Parts.{IsPart}
use Rattle.typed_values.specs.Levels.{DescLevel}

-- the same of each descriptor of a list
abbrev pub EachRests : (Desc → Type 0) → List Desc → Type 0
EachRests Next [] = ⊤
EachRests Next (d ∷ ds) = Next d × EachRests Next ds

-- one row for each descriptor: what is said of those that it leads to at one value; a name without a definition leads nowhere
abbrev pub RestsBy : List Definition → (Desc → Type 0) → DescLevel → Type 0
RestsBy table Next (Desc-F.Option d) = Next d
RestsBy table Next (Desc-F.Untagged ds) = EachRests Next ds
RestsBy table Next (Desc-F.Ref name) = MatchOption (definition table name) ⊤ Next
RestsBy table Next _ = ⊤

-- fewer than n steps lead from a descriptor to one that is no reference, no option and no untagged choice
unfoldable pub Rests : List Definition → ℕ → Desc → Type 0
Rests table zero d = ⊥
Rests table (suc n) d = RestsBy table (Rests table n) (out-Desc d)

-- each descriptor of the table and of the whole one rests within the room
abbrev pub AllRest : List Definition → Desc → Type 0
AllRest table whole = (d : Desc) → IsPart table whole d → Rests table (room table whole) d
