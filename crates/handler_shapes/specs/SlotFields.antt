-- The fields of what is taken of a path, a query or headers (OpenAPI 3.0.3, Parameter Object).
use Rattle.std.specs.Prelude.{List, Option}
use Rattle.descriptors.specs.declared.desc.Desc.{Desc}
use Rattle.descriptors.specs.declared.desc.Field.{Field}
use Rattle.descriptors.specs.declared.table.Definition.{Definition}
use Rattle.flat_maps.specs.Flat.{flat_fields, resolved}

-- the fields of the struct that a descriptor is or that references lead to, where it takes unknown names
abbrev pub struct_fields : List Definition → Desc → Option (List Field)
struct_fields table desc = flat_fields (resolved table desc)
