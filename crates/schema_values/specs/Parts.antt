-- The parts of a schema object, as OpenAPI 3.0.3 names them in its Schema Object.
use Rattle.std.specs.Prelude.{false, [], None}
use Rattle.schema_values.specs.declared.schema.ArrayParts.{ArrayParts}
use Rattle.schema_values.specs.declared.schema.Items.{Items}
use Rattle.schema_values.specs.declared.schema.ObjectParts.{ObjectParts}
use Rattle.schema_values.specs.declared.schema.Property.{Property}
use Rattle.schema_values.specs.declared.schema.Schema.{Schema}
use Rattle.schema_values.specs.declared.schema.SchemaObject.{SchemaObject, SchemaObject-F}
use Rattle.schema_values.specs.declared.schema.Subschemas.{Subschemas}

-- the parts of a schema object
abbrev pub Parts : Type 0
Parts = SchemaObject-F Items Schema ArrayParts ObjectParts Property SchemaObject Subschemas

-- a schema object without any part
abbrev pub no_parts : Parts
no_parts = record {
  title = None;
  description = None;
  default = None;
  deprecated = false;
  read_only = false;
  write_only = false;
  nullable = false;
  instance_type = None;
  format = None;
  enum_values = None;
  const_value = None;
  subschemas = None;
  number = None;
  string = None;
  array = None;
  object = None;
  reference = None;
  extensions = [];
}
