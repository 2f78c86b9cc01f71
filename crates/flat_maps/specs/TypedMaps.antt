-- The table beside which the values of a type are read from maps of texts, and written as such: the schemas that the
-- references of the type lead to (OpenAPI 3.0.3, Components Object, `schemas`), as a table of this library.
use Rattle.std.specs.Prelude.{List, []}
use Rattle.descriptors.specs.declared.desc.Desc.{Desc}
use Rattle.descriptors.specs.declared.table.Definition.{Definition}
use Rattle.api_types.specs.Additions.{with_all}
use Rattle.api_types.specs.Types.{IsTableOf}

-- the definitions of a type, added to an empty table
abbrev pub own_table : List Definition → List Definition
own_table ds = with_all [] ds

-- they do not clash, and pass the checks with the type's descriptor
abbrev pub HasOwnTable : List Definition → Desc → Type 0
HasOwnTable ds desc = IsTableOf ds desc (own_table ds)
