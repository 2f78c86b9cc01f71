-- The structs whose fields are parameters (OpenAPI 3.0.3, Parameter Object).
use Rattle.std.specs.Prelude.{◌≢◌, List, [], Option, Some, None, option_and_then, unwrap_or}
use Rattle.descriptors.specs.declared.desc.Desc.{Desc, out-Desc}
use Rattle.descriptors.specs.declared.desc.Desc.TheOpen.{Desc-F}
use Rattle.descriptors.specs.declared.desc.Field.{Field}
use Rattle.descriptors.specs.declared.table.Definition.{Definition}
use Rattle.typed_values.specs.Levels.{DescLevel}
use Rattle.flat_maps.specs.Flat.{resolved}

-- the fields of a struct, whether it takes unknown names or not
abbrev pub fields_at : DescLevel → Option (List Field)
fields_at (Desc-F.Struct fields deny_unknown) = Some fields
fields_at _ = None

-- those of the struct that a descriptor is, or that references lead to
abbrev pub any_fields : List Definition → Desc → Option (List Field)
any_fields table desc = option_and_then (λ d. fields_at (out-Desc d)) (resolved table desc)

-- the same fields; what is no struct has none
abbrev pub listed_fields : List Definition → Desc → List Field
listed_fields table desc = unwrap_or (any_fields table desc) []

-- a descriptor is a struct, itself or behind references
abbrev pub IsStruct : List Definition → Desc → Type 0
IsStruct table desc = any_fields table desc ≢ None
