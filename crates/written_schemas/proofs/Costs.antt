-- How many steps of a document the schema of a descriptor takes at one value.
use Rattle.std.proofs.Common.{ℕ, zero, suc, List, Option, Some, None}
use denote.Param.Weighed.{most}
use Rattle.descriptors.specs.declared.desc.Desc.{Desc, out-Desc}
use Rattle.descriptors.specs.declared.desc.Desc.TheOpen.{Desc-F}
use Rattle.descriptors.specs.declared.table.Definition.{Definition}
use Rattle.descriptors.specs.Definitions.{definition}
use Rattle.typed_values.specs.Levels.{DescLevel}

-- a reference takes two steps, since its schema or that of its definition may be an `allOf` of one
abbrev pub cost_after : (Desc → ℕ) → Option Desc → ℕ
cost_after next None = 0
cost_after next (Some y) = suc (suc (next y))

-- an enumeration takes two too, since it may be a choice of lists of names, and so do enumerations with payloads or fields
abbrev pub cost_by : List Definition → (Desc → ℕ) → DescLevel → ℕ
cost_by table next (Desc-F.Enumeration ns) = 2
cost_by table next (Desc-F.External vs) = 2
cost_by table next (Desc-F.Tagged tag vs) = 2
cost_by table next (Desc-F.Option x) = next x
cost_by table next (Desc-F.Untagged ds) = suc (most next ds)
cost_by table next (Desc-F.Ref name) = cost_after next (definition table name)
cost_by table next _ = 1

-- the steps that a descriptor's schema takes at one value, through at most n references, options and choices
unfoldable pub cost : List Definition → ℕ → Desc → ℕ
cost table zero d = 0
cost table (suc n) d = cost_by table (cost table n) (out-Desc d)
