-- How a schema is written (OpenAPI 3.0.3, Schema Object).
use Rattle.std.specs.Prelude.{ℕ, ℤ, pos, Bool, true, false, List, [], ◌∷◌, ◌++◌, map, filter, Option, Some, None, is_some, option_map, option_and_then, unwrap_or, if◌then◌else◌, codes}
use Rattle.std.specs.Option.{option_map_or, option_or}
use Rattle.schema_values.specs.declared.json_value.Json.{Json, Null as NullJson, Bool as Truth, Int, Text, List as ListOf}
use Rattle.schema_values.specs.declared.json_value.Member.{Member}
use Rattle.schema_values.specs.declared.schema.ArrayParts.{ArrayParts, ArrayParts-F, fold-ArrayParts}
use Rattle.schema_values.specs.declared.schema.InstanceType.{InstanceType}
use Rattle.schema_values.specs.declared.schema.InstanceType.TheVariants.{Null, Boolean, Object, Array, Number, String, Integer}
use Rattle.schema_values.specs.declared.schema.InstanceTypes.{InstanceTypes}
use Rattle.schema_values.specs.declared.schema.InstanceTypes.TheVariants.{Single, Several}
use Rattle.schema_values.specs.declared.schema.Items.{Items, Items-F, fold-Items}
use Rattle.schema_values.specs.declared.schema.Items.TheOpen as open_types
use Rattle.schema_values.specs.declared.schema.LengthBounds.{LengthBounds}
use Rattle.schema_values.specs.declared.schema.NumberBounds.{NumberBounds}
use Rattle.schema_values.specs.declared.schema.ObjectParts.{ObjectParts, ObjectParts-F, fold-ObjectParts}
use Rattle.schema_values.specs.declared.schema.Property.{Property, Property-F, fold-Property}
use Rattle.schema_values.specs.declared.schema.Schema.{Schema, Schema-F, fold-Schema}
use Rattle.schema_values.specs.declared.schema.SchemaObject.{SchemaObject, SchemaObject-F, fold-SchemaObject, out-SchemaObject}
use Rattle.schema_values.specs.declared.schema.Subschemas.{Subschemas, Subschemas-F, fold-Subschemas}
use Rattle.schema_values.specs.Get.{first_named}
use Rattle.openapi_values.specs.IfTrue.{if_true}
use Rattle.request_words.specs.Prefixes.{after}
use Rattle.openapi_values.specs.Objects.{Entry, list_unless_empty, pair_member, object_of, reference_json, unless_empty}

-- what a schema is written as: a schema under a title, where one is given; beside it the truth value that it is
pub record Written : Type 0 where
  pub truth : Option Bool
  pub under : Option (List ℕ) → Json

-- what a schema is written as where no title is given
abbrev pub untitled : Written → Json
untitled written = written.under None

-- one level of each type, with what the smaller schemas are written as
abbrev pub Level : ((A B C D E F G : Type 0) → Type 0) → Type 0
Level F = F Json Written (List Entry) (List Entry) (List ℕ × Json) (Option (List ℕ) → Json) (List Entry)

-- what admits nothing
abbrev pub nothing_entries : List Entry
nothing_entries = (codes "not", Some (object_of [])) ∷ []

-- `{}` admits all, and `{"not":{}}` nothing
abbrev pub truth_json : Bool → Json
truth_json true = object_of []
truth_json false = object_of nothing_entries

-- a truth value, or a schema object under a title
abbrev pub schema_step : Level Schema-F → Written
schema_step (open_types.Bool truth) = record { truth = Some truth; under = λ title. truth_json truth }
schema_step (open_types.Object under) = record { truth = None; under = under }

-- the schema of each item, without a title; schemas of items by place are a list, which `j2oas_schema` refuses
abbrev pub items_step : Level Items-F → Json
items_step (open_types.One written) = untitled written
items_step (open_types.Tuple written) = ListOf (map untitled written)

-- a count, left out where there is none
abbrev pub count_json : Option ℕ → Option Json
count_json = option_map (λ n. Int (pos n))

-- `items` and their least and greatest number
abbrev pub array_step : Level ArrayParts-F → List Entry
array_step array = (codes "items", array.items) ∷ (codes "minItems", count_json array.min) ∷ (codes "maxItems", count_json array.max) ∷ []

-- a property's name, and its schema without a title
abbrev pub property_step : Level Property-F → List ℕ × Json
property_step property = (property.name, untitled property.schema)

-- names as a list, left out where there are none
abbrev pub names_json : List (List ℕ) → Option Json
names_json names = list_unless_empty (map Text names)

-- `additionalProperties` is a truth value where its schema is one
abbrev pub additional_json : Written → Json
additional_json written = option_map_or Truth written.truth (untitled written)

-- the properties in their order, the names that are required, what other properties may be, and how many stand
abbrev pub object_parts_step : Level ObjectParts-F → List Entry
object_parts_step object =
    (codes "properties", unless_empty (map pair_member object.properties))
    ∷ (codes "required", names_json object.required)
    ∷ (codes "additionalProperties", option_map additional_json object.additional)
    ∷ (codes "minProperties", count_json object.min)
    ∷ (codes "maxProperties", count_json object.max)
    ∷ []

-- some schemas as a list, left out where none is given, and not where the list is empty
abbrev pub schemas_json : Option (List Written) → Option Json
schemas_json = option_map (λ schemas. ListOf (map untitled schemas))

-- `allOf`, `anyOf`, `oneOf` and `not`
abbrev pub subschemas_step : Level Subschemas-F → List Entry
subschemas_step subschemas =
    (codes "allOf", schemas_json subschemas.all_of)
    ∷ (codes "anyOf", schemas_json subschemas.any_of)
    ∷ (codes "oneOf", schemas_json subschemas.one_of)
    ∷ (codes "not", option_map untitled subschemas.not)
    ∷ []

-- the name of a type (OpenAPI 3.0.3, Data Types); null has none of its own, and stands among the values of a string
abbrev pub type_name : InstanceType → List ℕ
type_name Null = codes "string"
type_name Boolean = codes "boolean"
type_name Object = codes "object"
type_name Array = codes "array"
type_name Number = codes "number"
type_name String = codes "string"
type_name Integer = codes "integer"

-- a name that begins with `x-` (OpenAPI 3.0.3, Specification Extensions)
abbrev pub is_extension : Member → Bool
is_extension m = is_some (after (codes "x-") m.name)

-- an extension as it stands
abbrev pub extension_entry : Member → Entry
extension_entry m = (m.name, Some m.value)

-- the extensions, without members of other names
abbrev pub extension_entries : List Member → List Entry
extension_entries ms = map extension_entry (filter is_extension ms)

-- `nullable`, `readOnly`, `writeOnly` and `deprecated` where they are true, the extension `example`, the given title or else the schema's own, the description, the default, and then the other extensions
abbrev pub annotations : {A B C D E F G : Type 0} → Option (List ℕ) → SchemaObject-F A B C D E F G → List Entry
annotations given schema =
    (codes "nullable", if_true schema.nullable)
    ∷ (codes "readOnly", if_true schema.read_only)
    ∷ (codes "writeOnly", if_true schema.write_only)
    ∷ (codes "deprecated", if_true schema.deprecated)
    ∷ (codes "example", first_named (codes "example") schema.extensions)
    ∷ (codes "title", option_map Text (option_or given schema.title))
    ∷ (codes "description", option_map Text schema.description)
    ∷ (codes "default", schema.default)
    ∷ extension_entries schema.extensions

-- the values as a list, left out where they are not given, and not where the list is empty
abbrev pub values_json : Option (List Json) → Option Json
values_json = option_map ListOf

-- the one value of a const, where it is given
abbrev pub const_values : Option Json → Option (List Json)
const_values = option_map (λ value. value ∷ [])

-- the values: that of a const alone, else those that are given
abbrev pub values_of : Option Json → Option (List Json) → Option (List Json)
values_of const values = option_or (const_values const) values

-- the values of the type of null: that of a const alone, else null
abbrev pub null_values : Option Json → List Json
null_values const = unwrap_or (const_values const) (NullJson ∷ [])

-- some values as `enum`
abbrev pub enum_entries : Option (List Json) → List Entry
enum_entries values = (codes "enum", values_json values) ∷ []

-- a bound: the one that is included, else the one that is not
abbrev pub bound_json : Option ℤ → Option ℤ → Option Json
bound_json included excluded = option_map Int (option_or included excluded)

-- the bounds of a number, of which each is excluded where a truth value says so
abbrev pub bound_entries : NumberBounds → List Entry
bound_entries b =
    (codes "exclusiveMinimum", if_true (is_some b.exclusive_minimum))
    ∷ (codes "exclusiveMaximum", if_true (is_some b.exclusive_maximum))
    ∷ (codes "minimum", bound_json b.minimum b.exclusive_minimum)
    ∷ (codes "maximum", bound_json b.maximum b.exclusive_maximum)
    ∷ []

-- the format, the bounds and the values of a number
abbrev pub number_entries : Option (List ℕ) → Option NumberBounds → Option (List Json) → List Entry
number_entries format bounds values = (codes "format", option_map Text format) ∷ (option_map_or bound_entries bounds [] ++ enum_entries values)

-- the format of a text, its values and the bounds of its length
abbrev pub text_entries : Option (List ℕ) → Option LengthBounds → Option (List Json) → List Entry
text_entries format bounds values =
    (codes "format", option_map Text format)
    ∷ (codes "enum", values_json values)
    ∷ (codes "minLength", count_json (option_and_then (λ b. b.min) bounds))
    ∷ (codes "maxLength", count_json (option_and_then (λ b. b.max) bounds))
    ∷ []

-- the members that a type has beside its name; the type of null has null as its one value, unless a const is given
abbrev pub kind_entries : InstanceType → Level SchemaObject-F → List Entry
kind_entries Null schema = enum_entries (Some (null_values schema.const_value))
kind_entries Boolean schema = enum_entries (values_of schema.const_value schema.enum_values)
kind_entries Object schema = enum_entries (const_values schema.const_value) ++ unwrap_or schema.object []
kind_entries Array schema = enum_entries (const_values schema.const_value) ++ unwrap_or schema.array []
kind_entries Number schema = number_entries schema.format schema.number (values_of schema.const_value schema.enum_values)
kind_entries String schema = text_entries schema.format schema.string (values_of schema.const_value schema.enum_values)
kind_entries Integer schema = number_entries schema.format schema.number (values_of schema.const_value schema.enum_values)

-- the name of a type and what it has beside; nothing without a type, and nothing of several, which `j2oas_schema` refuses
abbrev pub type_entries : Option InstanceTypes → Level SchemaObject-F → List Entry
type_entries None schema = []
type_entries (Some (Several types)) schema = []
type_entries (Some (Single type)) schema = (codes "type", Some (Text (type_name type))) ∷ kind_entries type schema

-- the members of the type, and then the subschemas
abbrev pub own_entries : Level SchemaObject-F → List Entry
own_entries schema = type_entries schema.instance_type schema ++ unwrap_or schema.subschemas []

-- whether the values are given and there are none
abbrev pub without_values : Option (List Json) → Bool
without_values (Some []) = true
without_values _ = false

-- what stands behind the annotations: where the values are given and there are none, that nothing is admitted
abbrev pub entries_behind : Level SchemaObject-F → List Entry
entries_behind schema = if without_values schema.enum_values then nothing_entries else own_entries schema

-- a reference stands alone; else annotations come first, then what the schema is
abbrev pub object_step : Level SchemaObject-F → Option (List ℕ) → Json
object_step schema given =
    option_map_or reference_json schema.reference
    (object_of (annotations given schema ++ entries_behind schema))

-- a schema, as it is written: under each title, and beside it the truth value that it is
unfoldable pub schema_written : Schema → Written
schema_written = fold-Schema Json Written (List Entry) (List Entry) (List ℕ × Json) (Option (List ℕ) → Json) (List Entry) items_step schema_step array_step object_parts_step property_step object_step subschemas_step

-- the schema of items, as it is written
unfoldable pub items_written : Items → Json
items_written = fold-Items Json Written (List Entry) (List Entry) (List ℕ × Json) (Option (List ℕ) → Json) (List Entry) items_step schema_step array_step object_parts_step property_step object_step subschemas_step

-- what an array has, as it is written
unfoldable pub array_written : ArrayParts → List Entry
array_written = fold-ArrayParts Json Written (List Entry) (List Entry) (List ℕ × Json) (Option (List ℕ) → Json) (List Entry) items_step schema_step array_step object_parts_step property_step object_step subschemas_step

-- what an object has, as it is written
unfoldable pub object_parts_written : ObjectParts → List Entry
object_parts_written = fold-ObjectParts Json Written (List Entry) (List Entry) (List ℕ × Json) (Option (List ℕ) → Json) (List Entry) items_step schema_step array_step object_parts_step property_step object_step subschemas_step

-- a property's name, and its schema as it is written
unfoldable pub property_written : Property → List ℕ × Json
property_written = fold-Property Json Written (List Entry) (List Entry) (List ℕ × Json) (Option (List ℕ) → Json) (List Entry) items_step schema_step array_step object_parts_step property_step object_step subschemas_step

-- a schema object, as it is written under each title
unfoldable pub object_written : SchemaObject → Option (List ℕ) → Json
object_written = fold-SchemaObject Json Written (List Entry) (List Entry) (List ℕ × Json) (Option (List ℕ) → Json) (List Entry) items_step schema_step array_step object_parts_step property_step object_step subschemas_step

-- subschemas, as they are written
unfoldable pub subschemas_written : Subschemas → List Entry
subschemas_written = fold-Subschemas Json Written (List Entry) (List Entry) (List ℕ × Json) (Option (List ℕ) → Json) (List Entry) items_step schema_step array_step object_parts_step property_step object_step subschemas_step

-- one level of a schema object, in which each part with schemas stands as it is written
abbrev pub object_level : SchemaObject → Level SchemaObject-F
object_level schema = record {
  title = (out-SchemaObject schema).title;
  description = (out-SchemaObject schema).description;
  default = (out-SchemaObject schema).default;
  deprecated = (out-SchemaObject schema).deprecated;
  read_only = (out-SchemaObject schema).read_only;
  write_only = (out-SchemaObject schema).write_only;
  nullable = (out-SchemaObject schema).nullable;
  instance_type = (out-SchemaObject schema).instance_type;
  format = (out-SchemaObject schema).format;
  enum_values = (out-SchemaObject schema).enum_values;
  const_value = (out-SchemaObject schema).const_value;
  subschemas = option_map subschemas_written (out-SchemaObject schema).subschemas;
  number = (out-SchemaObject schema).number;
  string = (out-SchemaObject schema).string;
  array = option_map array_written (out-SchemaObject schema).array;
  object = option_map object_parts_written (out-SchemaObject schema).object;
  reference = (out-SchemaObject schema).reference;
  extensions = (out-SchemaObject schema).extensions;
}

-- a schema, under a title where one is given
abbrev pub schema_json : Option (List ℕ) → Schema → Json
schema_json title schema = (schema_written schema).under title
