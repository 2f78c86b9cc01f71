-- Which schemas are not written (OpenAPI 3.0.3, Schema Object), and why: the first refusal, outer schemas before inner
-- ones. The causes are this project's own.
use Rattle.std.specs.Prelude.{Bool, true, false, ◌==◌, ◌&&◌, ◌||◌, List, [], ◌∷◌, Option, Some, None, is_some, unwrap_or, option_map, option_and_then, if◌then◌else◌, count_by}
use Rattle.std.specs.List.{list_all, list_any}
use Rattle.std.specs.Option.{option_map_or, option_or}
use Rattle.schema_values.specs.declared.json_value.Json.{Json, out-Json}
use Rattle.schema_values.specs.declared.json_value.Json.TheOpen.{Json-F}
use Rattle.schema_values.specs.declared.json_value.Member.{Member}
use Rattle.schema_values.specs.declared.schema.ArrayParts.{ArrayParts, ArrayParts-F, fold-ArrayParts}
use Rattle.schema_values.specs.declared.schema.InstanceType.{InstanceType}
use Rattle.schema_values.specs.declared.schema.InstanceType.TheVariants.{Boolean, Object, Array, Number, String, Integer}
use Rattle.schema_values.specs.declared.schema.InstanceTypes.{InstanceTypes}
use Rattle.schema_values.specs.declared.schema.InstanceTypes.TheVariants.{Single, Several}
use Rattle.schema_values.specs.declared.schema.Items.{Items, Items-F, fold-Items}
use Rattle.schema_values.specs.declared.schema.Items.TheOpen as open_types
use Rattle.schema_values.specs.declared.schema.NumberBounds.{NumberBounds}
use Rattle.schema_values.specs.declared.schema.ObjectParts.{ObjectParts, ObjectParts-F, fold-ObjectParts}
use Rattle.schema_values.specs.declared.schema.Property.{Property, Property-F, fold-Property}
use Rattle.schema_values.specs.declared.schema.Schema.{Schema, Schema-F, fold-Schema}
use Rattle.schema_values.specs.declared.schema.SchemaObject.{SchemaObject, SchemaObject-F, fold-SchemaObject, out-SchemaObject}
use Rattle.schema_values.specs.declared.schema.Subschemas.{Subschemas, Subschemas-F, fold-Subschemas}
use Rattle.schema_values.specs.Same.{same_json}
use Rattle.openapi_values.specs.declared.j2oas.J2oasError.{J2oasError}
use Rattle.openapi_values.specs.declared.j2oas.J2oasError.TheVariants.{TypeArray, FloatSchema, TupleArray, NoItems, EnumConflict, ConstUnsupported, EnumWithoutType, BadEnumValue, BadBounds, BadSubschema}

-- why a schema is not written, or none
abbrev pub Refusal : Type 0
Refusal = Option J2oasError

-- the subschemas of a schema: whether they are of exactly one kind, and the first refusal among them
pub record Inner : Type 0 where
  pub one_kind : Bool
  pub refusal : Refusal

-- the items of an array: whether each place has a schema of its own, and the first refusal among them
pub record Within : Type 0 where
  pub by_place : Bool
  pub refusal : Refusal

-- one level of each type, with the refusals of the smaller schemas; of an array that of its items, where it has any
abbrev pub Level : ((A B C D E F G : Type 0) → Type 0) → Type 0
Level F = F Within Refusal (Option Within) Refusal Refusal Refusal Inner

-- the first refusal of a list
abbrev pub first_of : List Refusal → Refusal
first_of [] = None
first_of (refusal ∷ rest) = option_or refusal (first_of rest)

-- a truth value is written
abbrev pub schema_step : Level Schema-F → Refusal
schema_step (open_types.Bool truth) = None
schema_step (open_types.Object refusal) = refusal

-- items are refused as their schema is, or as the first of their schemas
abbrev pub items_step : Level Items-F → Within
items_step (open_types.One refusal) = record { by_place = false; refusal = refusal }
items_step (open_types.Tuple refusals) = record { by_place = true; refusal = first_of refusals }

-- what is told of the items
abbrev pub array_step : Level ArrayParts-F → Option Within
array_step array = array.items

-- a property is refused as its schema is
abbrev pub property_step : Level Property-F → Refusal
property_step property = property.schema

-- the first refusal among the properties, else that of `additionalProperties`
abbrev pub object_parts_step : Level ObjectParts-F → Refusal
object_parts_step object = option_or (first_of object.properties) (unwrap_or object.additional None)

-- whether exactly one is given
abbrev pub is_one_kind : List Bool → Bool
is_one_kind given = count_by (λ b. b) given == 1

-- the kinds of subschemas that are given, and the first refusal among them
abbrev pub subschemas_step : Level Subschemas-F → Inner
subschemas_step subschemas = record {
  one_kind = is_one_kind (is_some subschemas.all_of ∷ is_some subschemas.any_of ∷ is_some subschemas.one_of ∷ is_some subschemas.not ∷ []);
  refusal =
      option_or (first_of (unwrap_or subschemas.all_of []))
      (option_or (first_of (unwrap_or subschemas.any_of []))
      (option_or (first_of (unwrap_or subschemas.one_of []))
      (unwrap_or subschemas.not None)));
}

-- null, or a value of a type that is neither an object nor an array
abbrev pub is_level_of : InstanceType → Json-F Json Member → Bool
is_level_of type Json-F.Null = true
is_level_of Boolean (Json-F.Bool b) = true
is_level_of Integer (Json-F.Int n) = true
is_level_of String (Json-F.Text t) = true
is_level_of type level = false

-- a value that stands in the `enum` of a type
abbrev pub is_value_of : InstanceType → Json → Bool
is_value_of type json = is_level_of type (out-Json json)

-- the values of a type: none of an object or an array, else each null or of the type
abbrev pub values_beside : InstanceType → List Json → Refusal
values_beside Object values = Some EnumWithoutType
values_beside Array values = Some EnumWithoutType
values_beside type values = if list_all (is_value_of type) values then None else Some BadEnumValue

-- where a schema has values, they stand beside a type
abbrev pub values_refusal : Option InstanceTypes → List Json → Refusal
values_refusal (Some (Single type)) (value ∷ values) = values_beside type (value ∷ values)
values_refusal None (value ∷ values) = Some EnumWithoutType
values_refusal type values = None

-- a schema has one type, which is not that of all numbers
abbrev pub types_refusal : Option InstanceTypes → Refusal
types_refusal (Some (Several types)) = Some TypeArray
types_refusal (Some (Single Number)) = Some FloatSchema
types_refusal type = None

-- an array has one schema for all its items
abbrev pub own_items_refusal : Option InstanceTypes → Option Within → Refusal
own_items_refusal (Some (Single Array)) None = Some NoItems
own_items_refusal (Some (Single Array)) (Some items) = if items.by_place then Some TupleArray else None
own_items_refusal type items = None

-- a const is one of the values, where both are given
abbrev pub enum_conflict : Option Json → Option (List Json) → Refusal
enum_conflict (Some const) (Some values) = if list_any (same_json const) values then None else Some EnumConflict
enum_conflict const values = None

-- a const stands beside a type and subschemas
abbrev pub const_unsupported : Option Json → Option InstanceTypes → Option Inner → Refusal
const_unsupported None type subschemas = None
const_unsupported (Some const) (Some type) (Some subschemas) = None
const_unsupported (Some const) type subschemas = Some ConstUnsupported

-- whether a bound stands in both its forms
abbrev pub is_bound_twice : NumberBounds → Bool
is_bound_twice b = (is_some b.minimum && is_some b.exclusive_minimum) || (is_some b.maximum && is_some b.exclusive_maximum)

-- each bound stands in one form
abbrev pub bounds_refusal : Option NumberBounds → Refusal
bounds_refusal (Some bounds) = if is_bound_twice bounds then Some BadBounds else None
bounds_refusal None = None

-- without a type, subschemas are of exactly one kind
abbrev pub kinds_refusal : Option InstanceTypes → Option Inner → Refusal
kinds_refusal None (Some inner) = if inner.one_kind then None else Some BadSubschema
kinds_refusal type inner = None

-- the first refusal inside the items of an array, or inside the members of an object
abbrev pub type_refusal : Option InstanceTypes → Option Within → Option Refusal → Refusal
type_refusal (Some (Single Array)) items object = option_and_then (λ items. items.refusal) items
type_refusal (Some (Single Object)) items object = unwrap_or object None
type_refusal type items object = None

-- the items of an array, where the schema has them
abbrev pub items_of : Level SchemaObject-F → Option Within
items_of schema = option_and_then (λ items. items) schema.array

-- the schema's own case: its type, its items, its const, its values, its bounds, and then the kinds of its subschemas
abbrev pub own_refusal : Level SchemaObject-F → Refusal
own_refusal schema = first_of (
    types_refusal schema.instance_type
    ∷ own_items_refusal schema.instance_type (items_of schema)
    ∷ enum_conflict schema.const_value schema.enum_values
    ∷ const_unsupported schema.const_value schema.instance_type schema.subschemas
    ∷ values_refusal schema.instance_type (unwrap_or schema.enum_values [])
    ∷ bounds_refusal schema.number
    ∷ kinds_refusal schema.instance_type schema.subschemas
    ∷ [])

-- the first refusal inside: of what the type has, and then of the subschemas
abbrev pub inner_refusal : Level SchemaObject-F → Refusal
inner_refusal schema = option_or (type_refusal schema.instance_type (items_of schema) schema.object) (option_and_then (λ inner. inner.refusal) schema.subschemas)

-- a reference is written as it is; else a schema's own case comes before those inside
abbrev pub object_step : Level SchemaObject-F → Refusal
object_step schema = option_map_or (λ reference. None) schema.reference (option_or (own_refusal schema) (inner_refusal schema))

-- the first refusal in a schema
unfoldable pub refusal_of : Schema → Refusal
refusal_of = fold-Schema Within Refusal (Option Within) Refusal Refusal Refusal Inner items_step schema_step array_step object_parts_step property_step object_step subschemas_step

-- what is told of items
unfoldable pub items_within : Items → Within
items_within = fold-Items Within Refusal (Option Within) Refusal Refusal Refusal Inner items_step schema_step array_step object_parts_step property_step object_step subschemas_step

-- what is told of the items of an array, where it has any
unfoldable pub array_within : ArrayParts → Option Within
array_within = fold-ArrayParts Within Refusal (Option Within) Refusal Refusal Refusal Inner items_step schema_step array_step object_parts_step property_step object_step subschemas_step

-- the first refusal in what an object has
unfoldable pub object_parts_refusal : ObjectParts → Refusal
object_parts_refusal = fold-ObjectParts Within Refusal (Option Within) Refusal Refusal Refusal Inner items_step schema_step array_step object_parts_step property_step object_step subschemas_step

-- the first refusal in a property
unfoldable pub property_refusal : Property → Refusal
property_refusal = fold-Property Within Refusal (Option Within) Refusal Refusal Refusal Inner items_step schema_step array_step object_parts_step property_step object_step subschemas_step

-- the first refusal in a schema object
unfoldable pub object_refusal : SchemaObject → Refusal
object_refusal = fold-SchemaObject Within Refusal (Option Within) Refusal Refusal Refusal Inner items_step schema_step array_step object_parts_step property_step object_step subschemas_step

-- whether subschemas are of one kind, and the first refusal in them
unfoldable pub subschemas_inner : Subschemas → Inner
subschemas_inner = fold-Subschemas Within Refusal (Option Within) Refusal Refusal Refusal Inner items_step schema_step array_step object_parts_step property_step object_step subschemas_step

-- one level of a schema object, in which each part with schemas stands as its refusal
abbrev pub object_level : SchemaObject → Level SchemaObject-F
object_level schema = record {
  title = (out-SchemaObject schema).title;
  description = (out-SchemaObject schema).description;
  default = (out-SchemaObject schema).default;
  deprecated = (out-SchemaObject schema).deprecated;
  read_only = (out-SchemaObject schema).read_only;
  write_only = (out-SchemaObject schema).write_only;
  nullable = (out-SchemaObject schema).nullable;
  instance_type = (out-SchemaObject schema).instance_type;
  format = (out-SchemaObject schema).format;
  enum_values = (out-SchemaObject schema).enum_values;
  const_value = (out-SchemaObject schema).const_value;
  subschemas = option_map subschemas_inner (out-SchemaObject schema).subschemas;
  number = (out-SchemaObject schema).number;
  string = (out-SchemaObject schema).string;
  array = option_map array_within (out-SchemaObject schema).array;
  object = option_map object_parts_refusal (out-SchemaObject schema).object;
  reference = (out-SchemaObject schema).reference;
  extensions = (out-SchemaObject schema).extensions;
}
