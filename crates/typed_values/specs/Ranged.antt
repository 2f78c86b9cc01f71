-- What checks of a table give: bounds are in order and of their kind, and there are no more alternatives than places.
use Rattle.std.specs.Prelude.{List}
use Rattle.descriptors.specs.declared.desc.Desc.{Desc}
use Rattle.descriptors.specs.declared.table.Definition.{Definition}
use Rattle.typed_values.specs.Checks.{HasBadRange}
use Rattle.typed_values.specs.Parts.{IsPart}

-- no descriptor of the table or of the whole one has a bad range
abbrev pub AreRangesRight : List Definition → Desc → Type 0
AreRangesRight table whole = (d : Desc) → IsPart table whole d → HasBadRange d → ⊥
