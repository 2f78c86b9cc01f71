-- What each part of a schema asks of a value (OpenAPI 3.0.3, Schema Object).
use Rattle.std.specs.Prelude.{ℕ, ℤ, Bool, true, false, ◌&&◌, ◌||◌, not, ◌==◌, nat_le, int_le, int_lt, List, [], ◌∷◌, Option, Some, option_map, if◌then◌else◌, find, bytes_eq, length, count_by}
use Rattle.std.specs.List.{list_all, list_any}
use Rattle.std.specs.Option.{option_map_or}
use Rattle.schema_values.specs.declared.json_value.Json.{Json}
use Rattle.schema_values.specs.declared.json_value.Json.TheOpen.{Json-F}
use Rattle.schema_values.specs.declared.schema.ArrayParts.{ArrayParts}
use Rattle.schema_values.specs.declared.schema.InstanceType.{InstanceType}
use Rattle.schema_values.specs.declared.schema.InstanceType.TheVariants.{Null, Boolean, Object, Array, Number, String, Integer}
use Rattle.schema_values.specs.declared.schema.InstanceTypes.{InstanceTypes}
use Rattle.schema_values.specs.declared.schema.InstanceTypes.TheVariants.{Single, Several}
use Rattle.schema_values.specs.declared.schema.Items.{Items}
use Rattle.schema_values.specs.declared.schema.LengthBounds.{LengthBounds}
use Rattle.schema_values.specs.declared.schema.NumberBounds.{NumberBounds}
use Rattle.schema_values.specs.declared.schema.ObjectParts.{ObjectParts, out-ObjectParts}
use Rattle.schema_values.specs.declared.schema.Property.{Property}
use Rattle.schema_values.specs.declared.schema.Schema.{Schema}
use Rattle.schema_values.specs.declared.schema.Subschemas.{Subschemas}
use Rattle.schema_values.specs.Parts.{Parts}
use Rattle.schema_values.specs.Same.{same_json}
use Rattle.openapi_values.specs.Levels.{Named, Level, is_null, has_member}
use Rattle.openapi_values.specs.Lookup.{is_null_alone}
use Rattle.openapi_values.specs.Options.{is_none_or, is_some_and}
use Rattle.openapi_values.specs.Rows.{in_format}
use Rattle.openapi_values.specs.SchemaJson.{without_values}
use Rattle.schema_meaning.specs.Forms.{by_items}

-- whether a value is of a type; a whole number is of both types of numbers
abbrev pub is_of : {X : Type 0} → Level X → InstanceType → Bool
is_of Json-F.Null Null = true
is_of (Json-F.Bool b) Boolean = true
is_of (Json-F.Int n) Integer = true
is_of (Json-F.Int n) Number = true
is_of (Json-F.Text t) String = true
is_of (Json-F.List xs) Array = true
is_of (Json-F.Object ms) Object = true
is_of j type = false

-- a value is of the one type, or of one of several
abbrev pub is_of_types : {X : Type 0} → Level X → InstanceTypes → Bool
is_of_types j (Single type) = is_of j type
is_of_types j (Several types) = list_any (is_of j) types

-- the one type is that of texts
abbrev pub is_string : Option InstanceTypes → Bool
is_string (Some (Single String)) = true
is_string types = false

-- the form that null alone is written in, since OpenAPI 3.0.3 has no type of null: a string whose one value is null
abbrev pub is_null_form : Parts → Bool
is_null_form parts = is_string parts.instance_type && is_some_and parts.enum_values is_null_alone

-- the format of an integer asks that a number is one of the format's; beside other types a format asks nothing
abbrev pub format_holds : Option InstanceTypes → Option (List ℕ) → ℤ → Bool
format_holds (Some (Single Integer)) (Some format) n = in_format format n
format_holds types format n = true

-- a number is within its bounds, of which each may include or exclude the number that it names
abbrev pub number_holds : ℤ → NumberBounds → Bool
number_holds n bounds =
    is_none_or bounds.minimum (λ least. int_le least n)
    && (is_none_or bounds.exclusive_minimum (λ below. int_lt below n)
    && (is_none_or bounds.maximum (λ greatest. int_le n greatest)
    && is_none_or bounds.exclusive_maximum (λ above. int_lt n above)))

-- a length or a count is no less and no more than is given
abbrev pub count_holds : Option ℕ → Option ℕ → ℕ → Bool
count_holds min max n = is_none_or min (λ least. nat_le least n) && is_none_or max (λ most. nat_le n most)

-- a text has so many characters
abbrev pub length_holds : List ℕ → LengthBounds → Bool
length_holds t bounds = count_holds bounds.min bounds.max (length t)

-- the schema of the first property of a name
abbrev pub property_named : List ℕ → List Property → Option Schema
property_named name properties = option_map (λ p. p.schema) (find (λ p. bytes_eq name p.name) properties)

-- `smaller` says whether a smaller value is admitted by a schema, and `next` whether this value is with one step less
module _ {X : Type 0} (smaller : X → Schema → Bool) where
  -- each item is admitted by the schema of its place, where there is one
  abbrev pub places_hold : List Schema → List X → Bool
  places_hold [] xs = true
  places_hold schemas [] = true
  places_hold (schema ∷ schemas) (x ∷ xs) = smaller x schema && places_hold schemas xs

  -- each item is admitted by the one schema, or by that of its place
  abbrev pub items_hold : List X → Items → Bool
  items_hold xs = by_items (λ schema. list_all (λ x. smaller x schema) xs) (λ schemas. places_hold schemas xs)

  -- a list has so many items, and each is admitted
  abbrev pub array_holds : List X → ArrayParts → Bool
  array_holds xs array = is_none_or array.items (items_hold xs) && count_holds array.min array.max (length xs)

  -- a member's value is admitted by the schema of its property, or else by that of additional properties, where there is one
  abbrev pub member_holds : List Property → Option Schema → Named X → Bool
  member_holds properties additional m = option_map_or (smaller m.value) (property_named m.name properties) (is_none_or additional (smaller m.value))

  -- each member is admitted, each required name stands, and there are so many members
  abbrev pub object_holds : List (Named X) → ObjectParts → Bool
  object_holds ms object =
      list_all (member_holds (out-ObjectParts object).properties (out-ObjectParts object).additional) ms
      && (list_all (λ name. has_member name ms) (out-ObjectParts object).required
      && count_holds (out-ObjectParts object).min (out-ObjectParts object).max (length ms))

  -- what is asked of a number, a text, a list or an object alone
  abbrev pub form_holds : Level X → Parts → Bool
  form_holds (Json-F.Int n) parts = format_holds parts.instance_type parts.format n && is_none_or parts.number (number_holds n)
  form_holds (Json-F.Text t) parts = is_none_or parts.string (length_holds t)
  form_holds (Json-F.List xs) parts = is_none_or parts.array (array_holds xs)
  form_holds (Json-F.Object ms) parts = is_none_or parts.object (object_holds ms)
  form_holds j parts = true

-- each schema of `all_of` admits, one of `any_of` at least, exactly one of `one_of`, and that of `not` does not
abbrev pub subschemas_hold : (Schema → Bool) → Subschemas → Bool
subschemas_hold next subschemas =
    is_none_or subschemas.all_of (list_all next)
    && (is_none_or subschemas.any_of (list_any next)
    && (is_none_or subschemas.one_of (λ schemas. count_by next schemas == 1)
    && is_none_or subschemas.not (λ schema. not (next schema))))

-- an `all_of` that is given has one schema at least, as JSON Schema asks; one of none is not read
abbrev pub all_of_is_read : Subschemas → Bool
all_of_is_read subschemas = is_none_or subschemas.all_of (λ schemas. nat_le 1 (length schemas))

-- a schema object is read where its `all_of` is; beside values of which there are none, subschemas do not count
abbrev pub object_is_read : Parts → Bool
object_is_read parts = without_values parts.enum_values || is_none_or parts.subschemas all_of_is_read

module _ {X : Type 0} (smaller : X → Schema → Bool) (next : Schema → Bool) (json : Json) where
  -- each part that stands holds
  abbrev pub each_holds : Level X → Parts → Bool
  each_holds j parts =
      is_none_or parts.instance_type (is_of_types j)
      && (is_none_or parts.enum_values (list_any (same_json json))
      && (is_none_or parts.const_value (same_json json)
      && (form_holds smaller j parts
      && is_none_or parts.subschemas (subschemas_hold next))))

  -- `nullable` admits null whatever else is asked, and the null form null alone
  abbrev pub parts_hold : Level X → Parts → Bool
  parts_hold j parts = parts.nullable && is_null j || (if is_null_form parts then is_null j else each_holds j parts)

  -- an object that is not read admits nothing, and any other that of which each part holds
  abbrev pub parts_admit : Level X → Parts → Bool
  parts_admit j parts = object_is_read parts && parts_hold j parts
