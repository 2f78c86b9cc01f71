-- The members of the schema of a descriptor beside its annotations: as they are written, and in the table.
use Rattle.std.proofs.Common.{◌≡◌, ℕ, ℤ, List, [], ◌∷◌, ◌++◌, map, Option, Some, None, option_map, unwrap_or, if◌then◌else◌, Bool, true, false, refl, sym, ◌∙◌, ap, codes}
use Rattle.std.specs.Option.{option_map_or, option_or}
use Rattle.schema_values.specs.declared.json_value.Json.{Json, Bool as TruthJson, Text as Words, List as ListOf, Object}
use Rattle.schema_values.specs.declared.json_value.Member.{Member}
use Rattle.schema_values.specs.declared.schema.ArrayParts.{roll-ArrayParts}
use Rattle.schema_values.specs.declared.schema.InstanceType.TheVariants as types
use Rattle.schema_values.specs.declared.schema.InstanceTypes.{InstanceTypes}
use Rattle.schema_values.specs.declared.schema.InstanceTypes.TheVariants.{Single, Several}
use Rattle.schema_values.specs.declared.schema.Items.{One}
use Rattle.schema_values.specs.declared.schema.ObjectParts.{roll-ObjectParts, out-roll-ObjectParts}
use Rattle.schema_values.specs.declared.schema.Property.{Property}
use Rattle.schema_values.specs.declared.schema.Schema.{Schema, Bool as Truth}
use Rattle.schema_values.specs.declared.schema.SchemaObject.{SchemaObject-F, roll-SchemaObject, out-roll-SchemaObject}
use Rattle.schema_values.specs.declared.schema.Subschemas.{roll-Subschemas}
use Rattle.schema_values.specs.Member.{member}
use Rattle.openapi_values.specs.IfTrue.{if_true as truth_if}
use Rattle.openapi_values.specs.Objects.{Entry, pair_member, present, members_of, object_of as entries_object, reference_json, unless_empty}
use Rattle.openapi_values.specs.SchemaJson.{Written, Level, untitled, additional_json, count_json, names_json, annotations as annotation_entries, nothing_entries, type_entries, without_values, entries_behind, object_step, schema_written, array_written, object_parts_written, property_written, subschemas_written, schema_json}
use Rattle.openapi_values.proofs.CallerLemmas.{members_of-append, truth-is, object-under, item-is, array-is, subschemas-are, object_parts-are, object-is}
use Rattle.descriptors.specs.declared.desc.IntKind.{IntKind}
use Rattle.typed_values.specs.SchemaTable.{Remarks, annotations, nothing, if_true, if_text, if_value, if_number, if_count, if_members, if_names, if_denied, of_type, format_of, reference}
use Rattle.schema_values.specs.Parts.{Parts}
use Rattle.typed_values.specs.Schemas.{object_of, of_single, no_subschemas, number_bounds, length_bounds, nothing_more, list_of, struct_of, map_of, choice_of, one_of, all_or_none}
use Rattle.typed_values.proofs.CallerLemmas.{two_maps}
use Rattle.written_schemas.proofs.SchemaForms.{StructParts, object_parts, of_reference, in_all_of, unmarked}

-- ---- a schema by its parts

-- parts in which each part with schemas stands as it is written
abbrev level_of : Parts → Level SchemaObject-F
level_of p = record {
  title = p.title;
  description = p.description;
  default = p.default;
  deprecated = p.deprecated;
  read_only = p.read_only;
  write_only = p.write_only;
  nullable = p.nullable;
  instance_type = p.instance_type;
  format = p.format;
  enum_values = p.enum_values;
  const_value = p.const_value;
  subschemas = option_map subschemas_written p.subschemas;
  number = p.number;
  string = p.string;
  array = option_map array_written p.array;
  object = option_map object_parts_written p.object;
  reference = p.reference;
  extensions = p.extensions;
}

-- a level without annotations, which behind them make no difference
abbrev without_notes : Level SchemaObject-F → Level SchemaObject-F
without_notes s = record (unmarked s) { description = None; default = None; nullable = false; reference = None }

type_alone : (type : Option InstanceTypes) (s : Level SchemaObject-F) → type_entries type s ≡ type_entries type (without_notes s)
type_alone None s = refl
type_alone (Some (Several types)) s = refl
type_alone (Some (Single types.Null)) s = refl
type_alone (Some (Single types.Boolean)) s = refl
type_alone (Some (Single types.Object)) s = refl
type_alone (Some (Single types.Array)) s = refl
type_alone (Some (Single types.Number)) s = refl
type_alone (Some (Single types.String)) s = refl
type_alone (Some (Single types.Integer)) s = refl

behind_alone : (s : Level SchemaObject-F) → entries_behind s ≡ entries_behind (without_notes s)
behind_alone s = ap (λ (es : List Entry). if without_values s.enum_values then nothing_entries else es ++ unwrap_or s.subschemas []) (type_alone s.instance_type s)

-- the members beside the annotations
abbrev pub beside : Parts → List Member
beside p = members_of (entries_behind (without_notes (level_of p)))

by_parts : (given : Option (List ℕ)) (p : Parts) → schema_json given (object_of p) ≡ object_step (level_of p) given
by_parts given p =
    ap (λ (w : Written). w.under given) (object-under (roll-SchemaObject p))
    ∙ object-is (roll-SchemaObject p) given
    ∙ ap (λ (q : Parts). object_step (level_of q) given) (out-roll-SchemaObject p)

-- what the parts add to their schema
abbrev pub remarks_of : Parts → Remarks
remarks_of p = record { description = p.description; default = p.default }

-- ---- annotations that may be absent

true_if : (b : Bool) (name : List ℕ) (rest : List Member) → present name (truth_if b) rest ≡ if_true b name rest
true_if true name rest = refl
true_if false name rest = refl

text_if : (o : Option (List ℕ)) (name : List ℕ) (rest : List Member) → present name (option_map Words o) rest ≡ if_text o name rest
text_if None name rest = refl
text_if (Some text) name rest = refl

value_if : (o : Option Json) (name : List ℕ) (rest : List Member) → present name o rest ≡ if_value o name rest
value_if None name rest = refl
value_if (Some value) name rest = refl

own_title : (given : Option (List ℕ)) → option_or given None ≡ given
own_title None = refl
own_title (Some title) = refl

-- without those annotations only `nullable`, the given title, the description and the default are written
notes_are : (given : Option (List ℕ)) (p : Parts) → p ≡ unmarked p → members_of (annotation_entries given p) ≡ annotations p.nullable given (remarks_of p)
notes_are given p is_unmarked =
    let last = present (codes "default") p.default [] in
    let more = present (codes "description") (option_map Words p.description) last in
    ap (λ (q : Parts). members_of (annotation_entries given q)) is_unmarked
    ∙ true_if p.nullable (codes "nullable") (present (codes "title") (option_map Words (option_or given None)) more)
    ∙ ap (if_true p.nullable (codes "nullable"))
    (ap (λ (t : Option (List ℕ)). present (codes "title") (option_map Words t) more) (own_title given)
    ∙ text_if given (codes "title") more
    ∙ ap (if_text given (codes "title"))
    (text_if p.description (codes "description") last
    ∙ ap (if_text p.description (codes "description")) (value_if p.default (codes "default") [])))

-- parts that are no reference, too
pub written_beside : (given : Option (List ℕ)) (p : Parts) → p.reference ≡ None → p ≡ unmarked p → schema_json given (object_of p) ≡ Object (annotations p.nullable given (remarks_of p) ++ beside p)
written_beside given p no_reference is_unmarked =
    let behind = entries_behind (without_notes (level_of p)) in
    by_parts given p
    ∙ ap (λ (es : List Entry). option_map_or reference_json p.reference (entries_object (annotation_entries given p ++ es))) (behind_alone (level_of p))
    ∙ ap (λ (r : Option (List ℕ)). option_map_or reference_json r (entries_object (annotation_entries given p ++ behind))) no_reference
    ∙ ap Object (members_of-append (annotation_entries given p) behind ∙ ap (λ (ms : List Member). ms ++ beside p) (notes_are given p is_unmarked))

-- a reference is written alone, whatever the title
pub written_reference : (given : Option (List ℕ)) (name : List ℕ) → schema_json given (object_of (of_reference name)) ≡ Object (reference name).members
written_reference given name = by_parts given (of_reference name)

-- ---- members that may be absent

members_if : (ms : List Member) (name : List ℕ) (rest : List Member) → present name (unless_empty ms) rest ≡ if_members ms name rest
members_if [] name rest = refl
members_if (m ∷ ms) name rest = refl

names_if : (names : List (List ℕ)) (name : List ℕ) (rest : List Member) → present name (names_json names) rest ≡ if_names names name rest
names_if [] name rest = refl
names_if (n ∷ ns) name rest = refl

denied_if : (deny : Bool) → present (codes "additionalProperties") (option_map additional_json (option_map schema_written (nothing_more deny))) [] ≡ if_denied deny
denied_if true = ap (λ (w : Written). member (codes "additionalProperties") (additional_json w) ∷ []) (truth-is false)
denied_if false = refl

-- ---- one for each descriptor

pub int_members : (kind : IntKind) (low high : Option ℤ) →
    beside (record (of_single types.Integer) { format = Some (format_of kind); number = number_bounds low high })
    ≡ of_type (codes "integer") (member (codes "format") (Words (format_of kind)) ∷ if_number low (codes "minimum") (if_number high (codes "maximum") []))
int_members kind None None = refl
int_members kind None (Some high) = refl
int_members kind (Some low) None = refl
int_members kind (Some low) (Some high) = refl

pub text_members : (min max : Option ℕ) (format : Option (List ℕ)) →
    beside (record (of_single types.String) { format = format; string = length_bounds min max })
    ≡ of_type (codes "string") (if_text format (codes "format") (if_count min (codes "minLength") (if_count max (codes "maxLength") [])))
text_members None None format = ap (of_type (codes "string")) (text_if format _ _)
text_members None (Some max) format = ap (of_type (codes "string")) (text_if format _ _)
text_members (Some min) None format = ap (of_type (codes "string")) (text_if format _ _)
text_members (Some min) (Some max) format = ap (of_type (codes "string")) (text_if format _ _)

counts_if : (min max : Option ℕ) → members_of ((codes "minItems", count_json min) ∷ (codes "maxItems", count_json max) ∷ []) ≡ if_count min (codes "minItems") (if_count max (codes "maxItems") [])
counts_if None None = refl
counts_if None (Some max) = refl
counts_if (Some min) None = refl
counts_if (Some min) (Some max) = refl

pub list_members : (item : Schema) (json : Json) (min max : Option ℕ) → schema_json None item ≡ json →
    beside (list_of item min max) ≡ of_type (codes "array") (member (codes "items") json ∷ if_count min (codes "minItems") (if_count max (codes "maxItems") []))
list_members item json min max e =
    ap (λ (es : List Entry). members_of (((codes "type", Some (Words (codes "array"))) ∷ es) ++ [])) (array-is (roll-ArrayParts (record { items = Some (One item); min = min; max = max })))
    ∙ ap (λ (j : Json). of_type (codes "array") (member (codes "items") j ∷ members_of ((codes "minItems", count_json min) ∷ (codes "maxItems", count_json max) ∷ []))) (item-is item ∙ e)
    ∙ ap (λ (ms : List Member). of_type (codes "array") (member (codes "items") json ∷ ms)) (counts_if min max)

abbrev pub property_member : Property → Member
property_member p = pair_member (property_written p)

abbrev object_entries : StructParts → List Entry
object_entries o =
    (codes "properties", unless_empty (map pair_member (map property_written o.properties)))
    ∷ (codes "required", names_json o.required)
    ∷ (codes "additionalProperties", option_map additional_json (option_map schema_written o.additional))
    ∷ (codes "minProperties", count_json o.min)
    ∷ (codes "maxProperties", count_json o.max)
    ∷ []

object_members : (o : StructParts) → beside (record (of_single types.Object) { object = Some (roll-ObjectParts o) }) ≡ of_type (codes "object") (members_of (object_entries o))
object_members o =
    ap (λ (es : List Entry). members_of (((codes "type", Some (Words (codes "object"))) ∷ es) ++ []))
    (object_parts-are (roll-ObjectParts o) ∙ ap object_entries (out-roll-ObjectParts o))

pub struct_members : (properties : List Property) (required : List (List ℕ)) (deny : Bool) →
    beside (struct_of properties required deny)
    ≡ of_type (codes "object") (if_members (map property_member properties) (codes "properties") (if_names required (codes "required") (if_denied deny)))
struct_members properties required deny =
    let denied = present (codes "additionalProperties") (option_map additional_json (option_map schema_written (nothing_more deny))) [] in
    object_members (object_parts properties required deny)
    ∙ ap (of_type (codes "object")) (
    members_if (map pair_member (map property_written properties)) (codes "properties") (present (codes "required") (names_json required) denied)
    ∙ ap (λ (ms : List Member). if_members ms (codes "properties") (present (codes "required") (names_json required) denied)) (two_maps pair_member property_written property_member (λ p. refl) properties)
    ∙ ap (if_members (map property_member properties) (codes "properties")) (names_if required (codes "required") denied
    ∙ ap (if_names required (codes "required")) (denied_if deny)))

pub map_members : (values : Schema) (json : Json) → additional_json (schema_written values) ≡ json →
    beside (map_of values) ≡ of_type (codes "object") (member (codes "additionalProperties") json ∷ [])
map_members values json e =
    object_members (record { properties = []; required = []; additional = Some values; min = None; max = None })
    ∙ ap (λ (j : Json). of_type (codes "object") (member (codes "additionalProperties") j ∷ [])) e

-- the schema of other members: a truth value where it is one
pub truth_or_written : (truth : Option Bool) (p : Parts) (json : Json) → schema_json None (object_of p) ≡ json →
    additional_json (schema_written (option_map_or Truth truth (object_of p))) ≡ option_map_or TruthJson truth json
truth_or_written (Some truth) p json e = ap additional_json (truth-is truth)
truth_or_written None p json e =
    ap additional_json (object-under (roll-SchemaObject p))
    ∙ sym (ap untitled (object-under (roll-SchemaObject p)))
    ∙ e

listed_schemas : (schemas : List Schema) (jsons : List Json) → map (schema_json None) schemas ≡ jsons → map untitled (map schema_written schemas) ≡ jsons
listed_schemas schemas jsons e = two_maps untitled schema_written (schema_json None) (λ s. refl) schemas ∙ e

pub choice_members : (schemas : List Schema) (jsons : List Json) → map (schema_json None) schemas ≡ jsons →
    beside (choice_of schemas) ≡ member (codes "anyOf") (ListOf jsons) ∷ []
choice_members schemas jsons e =
    ap members_of (subschemas-are (roll-Subschemas (record no_subschemas { any_of = Some schemas })))
    ∙ ap (λ (js : List Json). member (codes "anyOf") (ListOf js) ∷ []) (listed_schemas schemas jsons e)

pub one_of_members : (schemas : List Schema) (jsons : List Json) → map (schema_json None) schemas ≡ jsons →
    beside (one_of schemas) ≡ member (codes "oneOf") (ListOf jsons) ∷ []
one_of_members schemas jsons e =
    ap members_of (subschemas-are (roll-Subschemas (record no_subschemas { one_of = Some schemas })))
    ∙ ap (λ (js : List Json). member (codes "oneOf") (ListOf js) ∷ []) (listed_schemas schemas jsons e)

pub nothing_members : beside (all_or_none false).parts ≡ nothing
nothing_members =
    ap members_of (subschemas-are (roll-Subschemas (record no_subschemas { not = Some (Truth true) })))
    ∙ ap (λ (w : Written). member (codes "not") (untitled w) ∷ []) (truth-is true)

pub all_of_members : (name : List ℕ) → members_of (subschemas_written (in_all_of (of_reference name))) ≡ member (codes "allOf") (ListOf (Object (reference name).members ∷ [])) ∷ []
all_of_members name =
    ap members_of (subschemas-are (in_all_of (of_reference name)))
    ∙ ap (λ (j : Json). member (codes "allOf") (ListOf (j ∷ [])) ∷ []) (written_reference None name)
