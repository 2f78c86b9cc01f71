-- The schema of a descriptor as a `Schema` value.
use Rattle.std.specs.Prelude.{ℕ, ℤ, Bool, true, false, not, List, [], ◌∷◌, ◌++◌, map, filter, Option, Some, None, if◌then◌else◌, codes}
use Rattle.std.specs.List.{list_any}
use Rattle.std.specs.Option.{option_map_or}
use Rattle.schema_values.specs.declared.json_value.Json.{Json, Text as Words}
use Rattle.schema_values.specs.declared.schema.Schema.{Schema, Bool as Truth, Object}
use Rattle.schema_values.specs.declared.schema.SchemaObject.{SchemaObject, roll-SchemaObject}
use Rattle.schema_values.specs.declared.schema.Subschemas.{Subschemas, Subschemas-F, roll-Subschemas}
use Rattle.schema_values.specs.declared.schema.ArrayParts.{ArrayParts, roll-ArrayParts}
use Rattle.schema_values.specs.declared.schema.ObjectParts.{ObjectParts, roll-ObjectParts}
use Rattle.schema_values.specs.declared.schema.Property.{Property, roll-Property}
use Rattle.schema_values.specs.declared.schema.InstanceType.{InstanceType}
use Rattle.schema_values.specs.declared.schema.InstanceType.TheVariants as types
use Rattle.schema_values.specs.declared.schema.InstanceTypes.TheVariants.{Single}
use Rattle.schema_values.specs.declared.schema.NumberBounds.{NumberBounds}
use Rattle.schema_values.specs.declared.schema.LengthBounds.{LengthBounds}
use Rattle.schema_values.specs.declared.schema.Items.{Items, One}
use Rattle.schema_values.specs.Parts.{Parts, no_parts}
use Rattle.descriptors.specs.declared.desc.Desc.{Desc, out-Desc}
use Rattle.descriptors.specs.declared.desc.Desc.TheOpen.{Desc-F}
use Rattle.descriptors.specs.declared.desc.Field.{Field}
use Rattle.descriptors.specs.declared.desc.IntKind.{IntKind}
use Rattle.descriptors.specs.declared.desc.Named.{Named}
use Rattle.descriptors.specs.declared.desc.TaggedVariant.{TaggedVariant}
use Rattle.descriptors.specs.declared.desc.Variant.{Variant}
use Rattle.descriptors.specs.declared.desc.Presence.{Presence}
use Rattle.descriptors.specs.declared.desc.Presence.TheVariants.{Required, Nullable, Skipped, Default}
use Rattle.descriptors.specs.declared.table.Definition.{Definition}
use Rattle.typed_values.specs.DescBeside.{Beside, FieldBeside, TaggedBeside, VariantBeside, LevelBeside, made_of, field_with, variant_with, tagged_with}
use Rattle.schema_values.specs.Order.{sorted_by, same_name, property_name}
use Rattle.typed_values.specs.SchemaTable.{bare_names, default_of, format_of, least_shown, is_described}
use Rattle.typed_values.specs.Levels.{DescLevel}

-- the schema of some parts
abbrev pub object_of : Parts → Schema
object_of parts = Object (roll-SchemaObject parts)

-- a schema object of one type
abbrev pub of_single : InstanceType → Parts
of_single type = record no_parts { instance_type = Some (Single type) }

-- no subschemas of any kind
abbrev pub no_subschemas : Subschemas-F Items Schema ArrayParts ObjectParts Property SchemaObject Subschemas
no_subschemas = record { all_of = None; any_of = None; one_of = None; not = None }

-- a reference that gets annotations stands in an `all_of` of one
abbrev pub annotatable : Parts → Parts
annotatable s = by_reference s.reference where
  by_reference : Option (List ℕ) → Parts
  by_reference None = s
  by_reference (Some name) = record no_parts { subschemas = Some (roll-Subschemas (record no_subschemas { all_of = Some (object_of s ∷ []) })) }

-- parts that are nullable
abbrev pub with_null : Parts → Parts
with_null s = record (annotatable s) { nullable = true }

-- parts with a description, where there is one
abbrev pub with_description : Option (List ℕ) → Parts → Parts
with_description None s = s
with_description (Some text) s = record (annotatable s) { description = Some text }

-- parts with a default, where there is one
abbrev pub with_default : Option Json → Parts → Parts
with_default None s = s
with_default (Some json) s = record (annotatable s) { default = Some json }

-- the bounds of numbers, none where neither is given
abbrev pub number_bounds : Option ℤ → Option ℤ → Option NumberBounds
number_bounds None None = None
number_bounds min max = Some (record { minimum = min; exclusive_minimum = None; maximum = max; exclusive_maximum = None })

-- the bounds of lengths or counts, none where neither is given
abbrev pub length_bounds : Option ℕ → Option ℕ → Option LengthBounds
length_bounds None None = None
length_bounds min max = Some (record { min = min; max = max })

-- the parts of a schema on the way, and the truth value that it is where it says what other members are
pub record Sketch : Type 0 where
  pub parts : Parts
  pub truth : Option Bool

-- parts that are no truth value
abbrev pub sketch : Parts → Sketch
sketch parts = record { parts = parts; truth = None }

-- a field with the schema of its type
abbrev pub FieldSketch : Type 0
FieldSketch = FieldBeside Sketch

-- a tagged variant with the schemas of its fields
abbrev pub TaggedSketch : Type 0
TaggedSketch = TaggedBeside Sketch

-- a variant with the schema of its payload
abbrev pub VariantSketch : Type 0
VariantSketch = VariantBeside Sketch

-- parts as a property
abbrev pub property : List ℕ → Parts → Property
property name parts = roll-Property (record { name = name; schema = object_of parts })

-- a field as a property, with its description and its default
abbrev pub property_of : List Definition → FieldSketch → Property
property_of table f = property f.name (with_default (default_of table f.presence f.desc.desc) (with_description f.description f.desc.made.parts))

-- the names of the fields that are required
abbrev pub required_names : List FieldSketch → List (List ℕ)
required_names [] = []
required_names (f ∷ fs) = with_required f.presence (required_names fs) where
  with_required : Presence → List (List ℕ) → List (List ℕ)
  with_required Required names = f.name ∷ names
  with_required Nullable names = names
  with_required Skipped names = names
  with_required (Default tree) names = names

-- the schema of other properties, which admits none where unknown names are denied
abbrev pub nothing_more : Bool → Option Schema
nothing_more true = Some (Truth false)
nothing_more false = None

-- an array of such items
abbrev pub list_of : Schema → Option ℕ → Option ℕ → Parts
list_of item min max =
    record (of_single types.Array) { array = Some (roll-ArrayParts (record { items = Some (One item); min = min; max = max })) }

-- an object of these properties, of which some are required
abbrev pub struct_of : List Property → List (List ℕ) → Bool → Parts
struct_of properties required deny = record (of_single types.Object) {
  object = Some (roll-ObjectParts (record { properties = properties; required = required; additional = nothing_more deny; min = None; max = None }));
}

-- an object of these properties, of which some are required, both in order
abbrev pub struct_parts : List Property → List (List ℕ) → Bool → Parts
struct_parts properties required deny = struct_of (sorted_by property_name properties) (sorted_by same_name required) deny

-- a choice of some schemas
abbrev pub choice_of : List Schema → Parts
choice_of alternatives = record no_parts { subschemas = Some (roll-Subschemas (record no_subschemas { any_of = Some alternatives })) }

-- what admits every value is a schema without parts, and what admits none is `not` of every value
abbrev pub all_or_none : Bool → Sketch
all_or_none true = record { parts = no_parts; truth = Some true }
all_or_none false = record {
  parts = record no_parts { subschemas = Some (roll-Subschemas (record no_subschemas { not = Some (Truth true) })) };
  truth = Some false;
}

-- a string that is one of some values
abbrev pub enumerated : List Json → Parts
enumerated values = record (of_single types.String) { enum_values = Some values }

-- the names of an enumeration as values
abbrev pub texts_of : List Named → List Json
texts_of ns = map (λ n. Words n.name) ns

-- a described name, as a choice of its own
abbrev pub described_choice : Named → Schema
described_choice n = object_of (with_description n.description (enumerated (Words n.name ∷ [])))

-- the names without description as one choice, left out where there are none
abbrev pub plain_choice : List Json → List Schema
plain_choice [] = []
plain_choice (value ∷ values) = object_of (enumerated (value ∷ values)) ∷ []

-- the names without description
abbrev pub not_described : List Named → List Named
not_described ns = filter (λ n. not (is_described n)) ns

-- the choices of an enumeration: first the names without description, then each described name
abbrev pub choices_of : List Named → List Schema
choices_of ns = plain_choice (texts_of (not_described ns)) ++ map described_choice (filter is_described ns)

-- a choice of which exactly one is met
abbrev pub one_of : List Schema → Parts
one_of choices = record no_parts { subschemas = Some (roll-Subschemas (record no_subschemas { one_of = Some choices })) }

-- an enumeration: its names, or a choice where some are described
abbrev pub enumeration : List Named → Parts
enumeration ns =
    if list_any is_described ns then one_of (choices_of ns) else enumerated (texts_of ns)

-- the schema of the values of a map: a truth value, or its parts
abbrev pub other_members : Sketch → Schema
other_members s = option_map_or Truth s.truth (object_of s.parts)

-- an object without properties, each of whose members has such a value
abbrev pub map_of : Schema → Parts
map_of values = record (of_single types.Object) {
  object = Some (roll-ObjectParts (record { properties = []; required = []; additional = Some values; min = None; max = None }));
}

-- the variants with payload: each an object of the one property, and of no other
abbrev pub payload_choices : List VariantSketch → List Schema
payload_choices [] = []
payload_choices (v ∷ vs) = with_payload v.payload (payload_choices vs) where
  with_payload : Option (Beside Sketch) → List Schema → List Schema
  with_payload None choices = choices
  with_payload (Some s) choices = object_of (with_description v.description (struct_parts (property v.name s.made.parts ∷ []) (v.name ∷ []) true)) ∷ choices

-- the choices of an external enumeration: those of its names without payload, and then each payload
abbrev pub external_choices : List VariantSketch → List Schema
external_choices vs = choices_of (bare_names vs) ++ payload_choices vs

-- a tagged variant: an object of the tag, which has the variant's name alone, and of its fields
abbrev pub tagged_choice : List Definition → List ℕ → TaggedSketch → Schema
tagged_choice table tag v =
    object_of (with_description v.description (struct_parts (property tag (enumerated (Words v.name ∷ [])) ∷ map (property_of table) v.fields) (tag ∷ required_names v.fields) false))

-- a text of one character
abbrev pub one_character : Parts
one_character = record (of_single types.String) { string = length_bounds (Some 1) (Some 1) }

-- a number of a kind, within bounds
abbrev pub number_parts : IntKind → Option ℤ → Option ℤ → Parts
number_parts kind min max = record (of_single types.Integer) { format = Some (format_of kind); number = number_bounds (least_shown kind min) max }

-- a text whose length is within bounds
abbrev pub text_parts : Option ℕ → Option ℕ → Option (List ℕ) → Parts
text_parts min max format = record (of_single types.String) { format = format; string = length_bounds min max }

-- a reference to a definition
abbrev pub reference_parts : List ℕ → Parts
reference_parts name = record no_parts { reference = Some (codes "#/components/schemas/" ++ name) }

-- one row for each descriptor
abbrev pub sketch_step : List Definition → LevelBeside Sketch → Sketch
sketch_step table Desc-F.Any = all_or_none true
sketch_step table Desc-F.Never = all_or_none false
sketch_step table Desc-F.Null = sketch (of_single types.Null)
sketch_step table Desc-F.Bool = sketch (of_single types.Boolean)
sketch_step table Desc-F.Char = sketch one_character
sketch_step table (Desc-F.Int kind min max) = sketch (number_parts kind min max)
sketch_step table (Desc-F.Text min max format) = sketch (text_parts min max format)
sketch_step table (Desc-F.Enumeration ns) = sketch (enumeration ns)
sketch_step table (Desc-F.Option s) = sketch (with_null s.made.parts)
sketch_step table (Desc-F.List s min max) = sketch (list_of (object_of s.made.parts) min max)
sketch_step table (Desc-F.Map s) = sketch (map_of (other_members s.made))
sketch_step table (Desc-F.Struct fs deny) = sketch (struct_parts (map (property_of table) fs) (required_names fs) deny)
sketch_step table (Desc-F.External vs) = sketch (one_of (external_choices vs))
sketch_step table (Desc-F.Tagged tag vs) = sketch (one_of (map (tagged_choice table tag) vs))
sketch_step table (Desc-F.Untagged ss) = sketch (choice_of (map (λ s. object_of s.made.parts) ss))
sketch_step table (Desc-F.Ref name) = sketch (reference_parts name)

-- the sketch of a descriptor's schema
abbrev pub schema_sketch : List Definition → Desc → Sketch
schema_sketch table = made_of (sketch_step table)

-- the parts of a descriptor's schema
abbrev pub schema_parts : List Definition → Desc → Parts
schema_parts table d = (schema_sketch table d).parts

-- a field with the sketch of its type
abbrev pub sketch_of_field : List Definition → Field → FieldSketch
sketch_of_field table = field_with (schema_sketch table)

-- a variant with the sketch of its payload
abbrev pub sketch_of_variant : List Definition → Variant → VariantSketch
sketch_of_variant table = variant_with (schema_sketch table)

-- a tagged variant with the sketches of its fields
abbrev pub sketch_of_tagged : List Definition → TaggedVariant → TaggedSketch
sketch_of_tagged table = tagged_with (schema_sketch table)

-- the schema of a descriptor
abbrev pub schema_value : List Definition → Desc → Schema
schema_value table d = object_of (schema_parts table d)

-- the schema of a definition, with its description
abbrev pub definition_value : List Definition → Definition → Schema
definition_value table e = object_of (with_description e.description (schema_parts table e.desc))

-- what stands in a header parameter of a request for a descriptor: an option is written as the schema of what it is over
abbrev pub in_header : Desc → Desc
in_header d = inner (out-Desc d) where
  inner : DescLevel → Desc
  inner (Desc-F.Option x) = x
  inner _ = d

-- what stands in a query parameter, or in a header of a response, for a descriptor: an option over a reference is written as the reference alone
abbrev pub in_query : Desc → Desc
in_query d = inner (out-Desc d) where
  is_reference : DescLevel → Bool
  is_reference (Desc-F.Ref name) = true
  is_reference _ = false

  inner : DescLevel → Desc
  inner (Desc-F.Option x) = if is_reference (out-Desc x) then x else d
  inner _ = d
