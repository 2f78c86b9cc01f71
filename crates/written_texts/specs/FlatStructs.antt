-- The structs whose fields are parameters, or the fields of a form (OpenAPI 3.0.3, Parameter Object and Request Body
-- Object).
use Rattle.std.specs.Prelude.{◌≡◌, List, Some, Contains}
use Rattle.schema_values.specs.declared.json_value.Json.{Json}
use Rattle.descriptors.specs.declared.desc.Desc.{Desc}
use Rattle.descriptors.specs.declared.desc.Field.{Field}
use Rattle.descriptors.specs.declared.table.Definition.{Definition}
use Rattle.typed_values.specs.Checks.{TablePasses, DescPasses}
use Rattle.flat_maps.specs.Flat.{resolved, flat_fields}
use Rattle.written_schemas.specs.Reached.{DefinesReached}
use Rattle.handler_shapes.specs.ScalarTypes.{IsScalarType}

-- a struct of these fields that takes unknown names, or a reference that leads to one; each field is scalar, and table and
-- descriptor pass their checks
pub record IsFlatStruct (table : List Definition) (desc : Desc) (fields : List Field) : Type 0 where
  pub table_passes : TablePasses table
  pub desc_passes : DescPasses table desc
  pub has_fields : flat_fields (resolved table desc) ≡ Some fields
  pub scalar : (f : Field) → Contains fields f → IsScalarType table f.desc

-- a document has the schemas of the definitions that the types of the fields reach; the struct itself need not stand there
abbrev pub DefinesFields : Json → List Definition → List Field → Type 0
DefinesFields doc table fields = (f : Field) → Contains fields f → DefinesReached doc table f.desc
