-- Lengths have 32 bits, as their type gives in the code.
use Rattle.std.specs.Prelude.{ℕ, Bool, true, nat_le, ◌&&◌, IsTrue, List, Option, Some, None, Contains}
use Rattle.descriptors.specs.declared.desc.Desc.{Desc, out-Desc}
use Rattle.descriptors.specs.declared.desc.Desc.TheOpen.{Desc-F}
use Rattle.descriptors.specs.declared.table.Definition.{Definition}
use Rattle.typed_values.specs.Levels.{DescLevel}
use Rattle.typed_values.specs.Parts.{StandsIn}

-- a length is below 2^32, where it is given
abbrev pub is_short : Option ℕ → Bool
is_short None = true
is_short (Some length) = nat_le length 4294967295

-- the lengths of a text or a list are below 2^32, where they are given
abbrev pub are_lengths_short : DescLevel → Bool
are_lengths_short (Desc-F.Text min max format) = is_short min && is_short max
are_lengths_short (Desc-F.List x min max) = is_short min && is_short max
are_lengths_short _ = true

-- the lengths that a descriptor itself gives are below 2^32
abbrev pub IsShort : Desc → Type 0
IsShort d = IsTrue (are_lengths_short (out-Desc d))

-- each length of each descriptor that stands in one is below 2^32
abbrev pub HasShortLengths : Desc → Type 0
HasShortLengths desc = (d : Desc) → StandsIn desc d → IsShort d

-- each length of each descriptor that stands in a table is below 2^32
abbrev pub TableHasShortLengths : List Definition → Type 0
TableHasShortLengths table = (e : Definition) → Contains table e → HasShortLengths e.desc
