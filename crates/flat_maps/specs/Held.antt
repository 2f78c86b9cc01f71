-- What a descriptor holds behind references (OpenAPI 3.0.3, Reference Object) and one option, which is of this library.
use Rattle.std.specs.Prelude.{List, Option, Some, option_and_then}
use Rattle.descriptors.specs.declared.desc.Desc.{Desc, out-Desc}
use Rattle.descriptors.specs.declared.desc.Desc.TheOpen.{Desc-F}
use Rattle.descriptors.specs.declared.table.Definition.{Definition}
use Rattle.typed_values.specs.Levels.{DescLevel}
use Rattle.flat_maps.specs.Flat.{resolved}

-- an option leads on, and any other descriptor is there
abbrev pub held_by : List Definition → Desc → DescLevel → Option Desc
held_by table d (Desc-F.Option x) = resolved table x
held_by table d _ = Some d

-- what references lead to, and behind an option that stands there what they lead to from it
abbrev pub held : List Definition → Desc → Option Desc
held table d = option_and_then (λ r. held_by table r (out-Desc r)) (resolved table d)
