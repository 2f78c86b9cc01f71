-- One level of a schema, as it is written.
use Rattle.std.proofs.Common.{◌≡◌, ℕ, List, Bool, Option, Some, None, option_map, map, sym, ◌∙◌, ap}
use Rattle.schema_values.specs.declared.json_value.Json.{Json, List as ListOf}
use Rattle.schema_values.specs.declared.schema.Items.{Items, One, Tuple, out-Items, roll-Items, roll-out-Items}
use Rattle.schema_values.specs.declared.schema.Items.TheOpen.{Items-F, Schema-F}
use Rattle.schema_values.specs.declared.schema.Items.TheVariants.{rolls-One, rolls-Tuple}
use Rattle.schema_values.specs.declared.schema.Schema.{Schema, Bool as Truth, Object, out-Schema, roll-Schema, roll-out-Schema}
use Rattle.schema_values.specs.declared.schema.Schema.TheVariants.{rolls-Bool, rolls-Object}
use Rattle.schema_values.specs.declared.schema.SchemaObject.{SchemaObject, SchemaObject-F, out-SchemaObject}
use Rattle.schema_values.specs.Parts.{Parts}
use Rattle.openapi_values.specs.SchemaJson.{Written, Level, untitled, truth_json, object_step, schema_written, items_written, array_written, object_parts_written, object_written, subschemas_written, schema_json}
use Rattle.openapi_values.proofs.CallerLemmas.{item-is as item-written, object-is as object-written, object-under as under-written, truth-is as truth-written, tuple-is as tuple-written}

-- a schema as it is written without a title
abbrev pub json_of : Schema → Json
json_of = schema_json None

pub is_truth : (schema : Schema) (truth : Bool) → out-Schema schema ≡ Schema-F.Bool truth → schema ≡ Truth truth
is_truth schema truth e = sym (roll-out-Schema schema) ∙ ap roll-Schema e ∙ rolls-Bool truth

pub is_object : (schema : Schema) (object : SchemaObject) → out-Schema schema ≡ Schema-F.Object object → schema ≡ Object object
is_object schema object e = sym (roll-out-Schema schema) ∙ ap roll-Schema e ∙ rolls-Object object

pub are_one : (items : Items) (schema : Schema) → out-Items items ≡ Items-F.One schema → items ≡ One schema
are_one items schema e = sym (roll-out-Items items) ∙ ap roll-Items e ∙ rolls-One schema

pub are_tuple : (items : Items) (schemas : List Schema) → out-Items items ≡ Items-F.Tuple schemas → items ≡ Tuple schemas
are_tuple items schemas e = sym (roll-out-Items items) ∙ ap roll-Items e ∙ rolls-Tuple schemas

pub truth-is : (schema : Schema) (truth : Bool) → out-Schema schema ≡ Schema-F.Bool truth → schema_written schema ≡ record { truth = Some truth; under = λ title. truth_json truth }
truth-is schema truth e = ap schema_written (is_truth schema truth e) ∙ truth-written truth

pub object-under : (schema : Schema) (object : SchemaObject) → out-Schema schema ≡ Schema-F.Object object → schema_written schema ≡ record { truth = None; under = object_written object }
object-under schema object e = ap schema_written (is_object schema object e) ∙ under-written object

pub one-is : (items : Items) (schema : Schema) → out-Items items ≡ Items-F.One schema → items_written items ≡ json_of schema
one-is items schema e = ap items_written (are_one items schema e) ∙ item-written schema

pub tuple-is : (items : Items) (schemas : List Schema) → out-Items items ≡ Items-F.Tuple schemas → items_written items ≡ ListOf (map untitled (map schema_written schemas))
tuple-is items schemas e = ap items_written (are_tuple items schemas e) ∙ tuple-written schemas

-- parts in which each part with schemas stands as it is written
abbrev pub level_of : Parts → Level SchemaObject-F
level_of p = record {
  title = p.title;
  description = p.description;
  default = p.default;
  deprecated = p.deprecated;
  read_only = p.read_only;
  write_only = p.write_only;
  nullable = p.nullable;
  instance_type = p.instance_type;
  format = p.format;
  enum_values = p.enum_values;
  const_value = p.const_value;
  subschemas = option_map subschemas_written p.subschemas;
  number = p.number;
  string = p.string;
  array = option_map array_written p.array;
  object = option_map object_parts_written p.object;
  reference = p.reference;
  extensions = p.extensions;
}

-- a schema object by its parts
pub by_parts-is : (schema : Schema) (object : SchemaObject) (given : Option (List ℕ)) → out-Schema schema ≡ Schema-F.Object object → schema_json given schema ≡ object_step (level_of (out-SchemaObject object)) given
by_parts-is schema object given e = ap (λ (w : Written). w.under given) (object-under schema object e) ∙ object-written object given
