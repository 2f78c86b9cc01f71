-- Shapes whose errors are those of the library, told of the whole shape.
use Rattle.std.specs.Prelude.{◌≡◌, List, [], ◌∷◌, Some, codes, option_to_list}
use Rattle.descriptors.specs.Definitions.{entry_of}
use Rattle.descriptors.specs.declared.table.Definition.{Definition}
use Rattle.handler_shapes.specs.declared.shape.HandlerShape.{HandlerShape}
use Rattle.http_status.specs.ErrorBodies.{error_definition, error_desc}

-- a shape with this table in place of its own
abbrev pub with_table : HandlerShape → List Definition → HandlerShape
with_table shape table = record shape { table = table }

-- the error is named as that of the library
abbrev pub IsNamed : HandlerShape → Type 0
IsNamed shape = shape ≡ record shape { error = Some (record { desc = error_desc; name = codes "Error" }) }

-- the table has its definition
abbrev pub IsDefined : HandlerShape → Type 0
IsDefined shape =
    with_table shape (option_to_list (entry_of shape.table (codes "Error"))) ≡ with_table shape (error_definition ∷ [])
