-- The schema of a descriptor as it stands in a document (OpenAPI 3.0.3, Schema Object).
use Rattle.std.specs.Prelude.{ℕ, ℤ, pos, Bool, true, false, not, List, [], ◌∷◌, ◌++◌, map, filter, Option, Some, None, is_some, if◌then◌else◌, codes}
use Rattle.std.specs.List.{list_any}
use Rattle.std.specs.Option.{option_map_or}
use Rattle.schema_values.specs.declared.json_value.Json.{Json, Null, Bool as Truth, Int as Number, Text as Words, List as Items, Object}
use Rattle.schema_values.specs.declared.json_value.Member.{Member}
use Rattle.schema_values.specs.Member.{name_of, member}
use Rattle.descriptors.specs.declared.desc.Desc.{Desc, out-Desc}
use Rattle.descriptors.specs.declared.desc.Desc.TheOpen.{Desc-F}
use Rattle.descriptors.specs.declared.desc.IntKind.{IntKind}
use Rattle.descriptors.specs.declared.desc.IntKind.TheVariants.{I8, I16, I32, I64, U8, U16, U32, U64}
use Rattle.descriptors.specs.declared.desc.Named.{Named}
use Rattle.descriptors.specs.declared.desc.Presence.{Presence}
use Rattle.descriptors.specs.declared.desc.Presence.TheVariants.{Required, Nullable, Skipped, Default}
use Rattle.descriptors.specs.declared.table.Definition.{Definition}
use Rattle.descriptors.specs.Definitions.{listed_name}
use Rattle.typed_values.specs.DescBeside.{Beside, FieldBeside, TaggedBeside, VariantBeside, LevelBeside, made_of}
use Rattle.typed_values.specs.Encoding.{json_of_tree}
use Rattle.schema_values.specs.Order.{sorted_by, same_name}
use Rattle.typed_values.specs.Levels.{DescLevel, VariantOf}

-- what a field, a definition or a variant adds to a schema
pub record Remarks : Type 0 where
  pub description : Option (List ℕ)
  pub default : Option Json

-- nothing added
abbrev pub no_remarks : Remarks
no_remarks = record { description = None; default = None }

-- a schema on the way: its annotations, and the members of its kind, which of a reference are `$ref` alone; and
-- the truth value that it is where it says what other members are
pub record Drawn : Type 0 where
  pub nullable : Bool
  pub title : Option (List ℕ)
  pub remarks : Remarks
  pub is_reference : Bool
  pub truth : Option Bool
  pub members : List Member

-- a schema without annotations, of these members
abbrev pub plain : List Member → Drawn
plain members = record { nullable = false; title = None; remarks = no_remarks; is_reference = false; truth = None; members = members }

-- what admits none: `not` of every value
abbrev pub nothing : List Member
nothing = member (codes "not") (Object []) ∷ []

-- what admits every value, and what admits none
abbrev pub all_or_none : Bool → Drawn
all_or_none true = record (plain []) { truth = Some true }
all_or_none false = record (plain nothing) { truth = Some false }

-- a reference to a definition (OpenAPI 3.0.3, Reference Object)
abbrev pub reference : List ℕ → Drawn
reference name = record {
  nullable = false;
  title = None;
  remarks = no_remarks;
  is_reference = true;
  truth = None;
  members = member (codes "$ref") (Words (codes "#/components/schemas/" ++ name)) ∷ [];
}

-- members that stand only where there is something to say
abbrev pub if_true : Bool → List ℕ → List Member → List Member
if_true true name rest = member name (Truth true) ∷ rest
if_true false name rest = rest

abbrev pub if_text : Option (List ℕ) → List ℕ → List Member → List Member
if_text (Some text) name rest = member name (Words text) ∷ rest
if_text None name rest = rest

abbrev pub if_value : Option Json → List ℕ → List Member → List Member
if_value (Some value) name rest = member name value ∷ rest
if_value None name rest = rest

abbrev pub if_number : Option ℤ → List ℕ → List Member → List Member
if_number (Some number) name rest = member name (Number number) ∷ rest
if_number None name rest = rest

abbrev pub if_count : Option ℕ → List ℕ → List Member → List Member
if_count (Some count) name rest = member name (Number (pos count)) ∷ rest
if_count None name rest = rest

abbrev pub if_members : List Member → List ℕ → List Member → List Member
if_members [] name rest = rest
if_members (m ∷ ms) name rest = member name (Object (m ∷ ms)) ∷ rest

abbrev pub if_names : List (List ℕ) → List ℕ → List Member → List Member
if_names [] name rest = rest
if_names (n ∷ ns) name rest = member name (Items (map Words (n ∷ ns))) ∷ rest

abbrev pub if_denied : Bool → List Member
if_denied true = member (codes "additionalProperties") (Truth false) ∷ []
if_denied false = []

-- the member `type` before others
abbrev pub of_type : List ℕ → List Member → List Member
of_type name rest = member (codes "type") (Words name) ∷ rest

-- a reference with annotations stands in an `allOf` of one
abbrev pub annotated : List Member → Bool → List Member → List Member
annotated [] is_reference members = members
annotated (a ∷ annotations) true members = (a ∷ annotations) ++ member (codes "allOf") (Items (Object members ∷ [])) ∷ []
annotated (a ∷ annotations) false members = (a ∷ annotations) ++ members

-- the annotations of a schema
abbrev pub annotations : Bool → Option (List ℕ) → Remarks → List Member
annotations nullable title remarks = if_true nullable (codes "nullable") (if_text title (codes "title")
    (if_text remarks.description (codes "description") (if_value remarks.default (codes "default") [])))

-- the schema as JSON: annotations first
abbrev pub drawn_json : Drawn → Json
drawn_json s = Object (annotated (annotations s.nullable s.title s.remarks) s.is_reference s.members)

-- the format of a kind of numbers (OpenAPI 3.0.3, Data Types, has int32 and int64)
abbrev pub format_of : IntKind → List ℕ
format_of I8 = codes "int8"
format_of I16 = codes "int16"
format_of I32 = codes "int32"
format_of I64 = codes "int64"
format_of U8 = codes "uint8"
format_of U16 = codes "uint16"
format_of U32 = codes "uint32"
format_of U64 = codes "uint64"

-- an unsigned kind has a least number, 0 where none is given
abbrev pub least_shown : IntKind → Option ℤ → Option ℤ
least_shown kind (Some min) = Some min
least_shown I8 None = None
least_shown I16 None = None
least_shown I32 None = None
least_shown I64 None = None
least_shown U8 None = Some (pos 0)
least_shown U16 None = Some (pos 0)
least_shown U32 None = Some (pos 0)
least_shown U64 None = Some (pos 0)

-- a field with the schema of its type
abbrev pub DrawnField : Type 0
DrawnField = FieldBeside Drawn

-- a tagged variant with the schemas of its fields
abbrev pub DrawnTagged : Type 0
DrawnTagged = TaggedBeside Drawn

-- a variant with the schema of its payload
abbrev pub DrawnVariant : Type 0
DrawnVariant = VariantBeside Drawn

-- a schema with a description, where there is one
abbrev pub described : Option (List ℕ) → Drawn → Drawn
described None s = s
described (Some text) s = record s { remarks = record s.remarks { description = Some text } }

-- a schema with a default, where there is one
abbrev pub defaulted : Option Json → Drawn → Drawn
defaulted None s = s
defaulted (Some json) s = record s { remarks = record s.remarks { default = Some json } }

-- the JSON of the tree that stands for an absent field
abbrev pub default_of : List Definition → Presence → Desc → Option Json
default_of table Required d = None
default_of table Nullable d = None
default_of table Skipped d = None
default_of table (Default tree) d = Some (json_of_tree table d tree)

-- a schema as a member of `properties`
abbrev pub property : List ℕ → Drawn → Member
property name s = member name (drawn_json s)

-- a field as a property, with its description and its default
abbrev pub property_of : List Definition → DrawnField → Member
property_of table f = property f.name (defaulted (default_of table f.presence f.desc.desc) (described f.description f.desc.made))

-- the names of the fields that are required
abbrev pub required_names : List DrawnField → List (List ℕ)
required_names [] = []
required_names (f ∷ fs) = with_required f.presence (required_names fs) where
  with_required : Presence → List (List ℕ) → List (List ℕ)
  with_required Required names = f.name ∷ names
  with_required Nullable names = names
  with_required Skipped names = names
  with_required (Default tree) names = names

-- a string that is one of some names (OpenAPI 3.0.3, Schema Object, `enum`); without names nothing is admitted
abbrev pub enumerated : List (List ℕ) → Drawn
enumerated [] = plain nothing
enumerated (name ∷ names) = plain (of_type (codes "string") (member (codes "enum") (Items (map Words (name ∷ names))) ∷ []))

-- whether a name has a description
abbrev pub is_described : Named → Bool
is_described n = is_some n.description

-- a described name, as a choice of its own
abbrev pub described_choice : Named → Json
described_choice n = drawn_json (described n.description (enumerated (n.name ∷ [])))

-- the names without description as one choice, left out where there are none
abbrev pub plain_choice : List (List ℕ) → List Json
plain_choice [] = []
plain_choice (name ∷ names) = drawn_json (enumerated (name ∷ names)) ∷ []

-- the choices of an enumeration: first the names without description, then each described name
abbrev pub choices_of : List Named → List Json
choices_of ns = plain_choice (map listed_name (filter (λ n. not (is_described n)) ns)) ++ map described_choice (filter is_described ns)

-- an enumeration: its names, or a choice where some are described
abbrev pub enumeration : List Named → Drawn
enumeration ns =
    if list_any is_described ns then plain (member (codes "oneOf") (Items (choices_of ns)) ∷ []) else enumerated (map listed_name ns)

-- null alone: a string without any value but null
abbrev pub null_alone : Drawn
null_alone = plain (of_type (codes "string") (member (codes "enum") (Items (Null ∷ [])) ∷ []))

-- a text of one character
abbrev pub one_character : Drawn
one_character = plain (of_type (codes "string") (if_count (Some 1) (codes "minLength") (if_count (Some 1) (codes "maxLength") [])))

-- what the values of a map are: a truth value, or a schema
abbrev pub other_members : Drawn → Json
other_members s = option_map_or Truth s.truth (drawn_json s)

-- an object of these properties, of which some are required, both in order
abbrev pub struct_drawn : List Member → List (List ℕ) → Bool → Drawn
struct_drawn properties required deny = plain (of_type (codes "object") (if_members (sorted_by name_of properties) (codes "properties")
    (if_names (sorted_by same_name required) (codes "required") (if_denied deny))))

-- the variants without payload, as the names of an enumeration
abbrev pub bare_names : {X : Type 0} → List (VariantOf X) → List Named
bare_names [] = []
bare_names {X} (v ∷ vs) = unless_payload v.payload (bare_names vs) where
  unless_payload : Option X → List Named → List Named
  unless_payload None names = record { name = v.name; description = v.description } ∷ names
  unless_payload (Some s) names = names

-- the variants with payload: each an object of the one property, and of no other
abbrev pub payload_choices : List DrawnVariant → List Json
payload_choices [] = []
payload_choices (v ∷ vs) = with_payload v.payload (payload_choices vs) where
  with_payload : Option (Beside Drawn) → List Json → List Json
  with_payload None choices = choices
  with_payload (Some s) choices = drawn_json (described v.description (struct_drawn (property v.name s.made ∷ []) (v.name ∷ []) true)) ∷ choices

-- the choices of an external enumeration: those of its names without payload, and then each payload
abbrev pub external_choices : List DrawnVariant → List Json
external_choices vs = choices_of (bare_names vs) ++ payload_choices vs

-- a tagged variant: an object of the tag, which has the variant's name alone, and of its fields
abbrev pub tagged_choice : List Definition → List ℕ → DrawnTagged → Json
tagged_choice table tag v = drawn_json (described v.description
    (struct_drawn (property tag (enumerated (v.name ∷ [])) ∷ map (property_of table) v.fields) (tag ∷ required_names v.fields) false))

-- one row for each descriptor
abbrev pub drawn_step : List Definition → LevelBeside Drawn → Drawn
drawn_step table Desc-F.Any = all_or_none true
drawn_step table Desc-F.Never = all_or_none false
drawn_step table Desc-F.Null = null_alone
drawn_step table Desc-F.Bool = plain (of_type (codes "boolean") [])
drawn_step table Desc-F.Char = one_character
drawn_step table (Desc-F.Int kind min max) = plain (of_type (codes "integer") (member (codes "format") (Words (format_of kind))
    ∷ if_number (least_shown kind min) (codes "minimum") (if_number max (codes "maximum") [])))
drawn_step table (Desc-F.Text min max format) =
    plain (of_type (codes "string") (if_text format (codes "format") (if_count min (codes "minLength") (if_count max (codes "maxLength") []))))
drawn_step table (Desc-F.Enumeration ns) = enumeration ns
drawn_step table (Desc-F.Option s) = record s.made { nullable = true; truth = None }
drawn_step table (Desc-F.List s min max) =
    plain (of_type (codes "array") (member (codes "items") (drawn_json s.made) ∷ if_count min (codes "minItems") (if_count max (codes "maxItems") [])))
drawn_step table (Desc-F.Map s) = plain (of_type (codes "object") (member (codes "additionalProperties") (other_members s.made) ∷ []))
drawn_step table (Desc-F.Struct fs deny) = struct_drawn (map (property_of table) fs) (required_names fs) deny
drawn_step table (Desc-F.External vs) = plain (member (codes "oneOf") (Items (external_choices vs)) ∷ [])
drawn_step table (Desc-F.Tagged tag vs) = plain (member (codes "oneOf") (Items (map (tagged_choice table tag) vs)) ∷ [])
drawn_step table (Desc-F.Untagged ss) = plain (member (codes "anyOf") (Items (map (λ s. drawn_json s.made) ss)) ∷ [])
drawn_step table (Desc-F.Ref name) = reference name

-- the schema of a descriptor, with its annotations apart
abbrev pub drawn : List Definition → Desc → Drawn
drawn table = made_of (drawn_step table)

-- the schema of a descriptor
abbrev pub schema_json : List Definition → Desc → Json
schema_json table d = drawn_json (drawn table d)

-- the schema of a type with its name, which a reference does not show
abbrev pub titled : List Definition → List ℕ → Desc → Drawn
titled table name d = by_form (out-Desc d) where
  by_form : DescLevel → Drawn
  by_form (Desc-F.Ref other) = drawn table d
  by_form _ = record (drawn table d) { title = Some name }

-- the schema of a type, with its name as the title
abbrev pub schema_json_titled : List Definition → List ℕ → Desc → Json
schema_json_titled table name d = drawn_json (titled table name d)

-- the schema of a definition, with its description
abbrev pub schema_json_described : List Definition → Option (List ℕ) → Desc → Json
schema_json_described table description d = drawn_json (described description (drawn table d))
