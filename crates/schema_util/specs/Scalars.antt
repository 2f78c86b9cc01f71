-- Which schemas are those of scalar values, of texts alone, and of lists of texts (JSON Schema: `type`, `allOf`, `anyOf`, `oneOf` and `items`).
use Rattle.std.specs.Prelude.{◌≡◌, ℕ, Bool, true, false, List, [], ◌∷◌, Option, Some, None, Ok, Err, if◌then◌else◌}
use Rattle.std.specs.Str.{encode_utf8_all}
use Rattle.schema_values.specs.declared.json_value.Json.{Json}
use Rattle.schema_values.specs.declared.schema.ArrayParts.{ArrayParts, out-ArrayParts}
use Rattle.schema_values.specs.declared.schema.InstanceType.{InstanceType}
use Rattle.schema_values.specs.declared.schema.InstanceType.TheVariants.{Boolean, Number, String, Integer, Array}
use Rattle.schema_values.specs.declared.schema.InstanceTypes.{InstanceTypes}
use Rattle.schema_values.specs.declared.schema.InstanceTypes.TheVariants.{Single}
use Rattle.schema_values.specs.declared.schema.Items.{Items, out-Items}
use Rattle.schema_values.specs.declared.schema.Items.TheOpen as open_types
use Rattle.schema_values.specs.declared.schema.LengthBounds.{LengthBounds}
use Rattle.schema_values.specs.declared.schema.NumberBounds.{NumberBounds}
use Rattle.schema_values.specs.declared.schema.ObjectParts.{ObjectParts}
use Rattle.schema_values.specs.declared.schema.Schema.{Schema, out-Schema}
use Rattle.schema_values.specs.declared.schema.SchemaObject.{SchemaObject, out-SchemaObject}
use Rattle.schema_values.specs.declared.schema.Subschemas.{Subschemas}
use Rattle.schema_util.specs.declared.scalar.ScalarError.{ScalarError}
use Rattle.schema_util.specs.declared.scalar.ScalarError.TheVariants.{NotScalar, NotStringList, Dangling, Cycle}
use Rattle.schema_util.specs.Forms.{SchemaForm, form_of, reference, combination, SchemaKind, kind_of, all_of, any_of, one_of}
use Rattle.schema_util.specs.References.{Unresolved, dangling, cycle, Names, follow, ComesTo}

-- what a type test asks for: scalar values, or texts alone
pub data Asked : Type 0 where
  scalars : Asked
  texts : Asked

-- whether a type is wanted: that of a scalar value, or that of texts
abbrev pub is_wanted : Asked → InstanceType → Bool
is_wanted asked String = true
is_wanted scalars Boolean = true
is_wanted scalars Number = true
is_wanted scalars Integer = true
is_wanted asked type = false

-- by types, subschemas, array, object and reference
abbrev pub type_by : Option InstanceTypes → Option Subschemas → Option ArrayParts → Option ObjectParts → Option (List ℕ) → Option InstanceType
type_by (Some (Single type)) None None None None = Some type
type_by types subschemas array object text = None

-- the single type of a schema that has neither subschemas, array, object nor reference
abbrev pub single_type : SchemaObject → Option InstanceType
single_type object = type_by
    (out-SchemaObject object).instance_type
    (out-SchemaObject object).subschemas
    (out-SchemaObject object).array
    (out-SchemaObject object).object
    (out-SchemaObject object).reference

-- what a type test finds in a schema: a reference to test behind, schemas to test each, a type that is asked for, or anything else
pub data SchemaFinding : Type 0 where
  refers : List ℕ → SchemaFinding
  has_members : List Schema → SchemaFinding
  fits : SchemaFinding
  differs : SchemaFinding

-- by the kind of subschemas that stand alone
abbrev pub finding_of_kind : SchemaKind → SchemaFinding
finding_of_kind (all_of (member ∷ [])) = has_members (member ∷ [])
finding_of_kind (any_of (member ∷ [])) = has_members (member ∷ [])
finding_of_kind (one_of members) = has_members members
finding_of_kind kind = differs

-- by the single type, if there is one
abbrev pub finding_of_type : Asked → Option InstanceType → SchemaFinding
finding_of_type asked None = differs
finding_of_type asked (Some type) = if is_wanted asked type then fits else differs

-- by the form and the single type
abbrev pub finding_of_form : Asked → SchemaForm → Option InstanceType → SchemaFinding
finding_of_form asked (reference text) type = refers (encode_utf8_all text)
finding_of_form asked (combination subschemas) type = finding_of_kind (kind_of subschemas)
finding_of_form asked form type = finding_of_type asked type

-- what a type test finds in a schema
abbrev pub finding : Asked → Schema → SchemaFinding
finding asked schema = elim (out-Schema schema) [ open_types.Bool b ↦ differs | open_types.Object object ↦ finding_of_form asked (form_of object) (single_type object) ]

-- why a schema does not fit: one on the way is none of what is asked for, or a reference has no end
pub data Fault : Type 0 where
  mismatch : Asked → Fault
  unresolved : Unresolved → Fault

mutual
  -- the first fault of a schema behind the names that were met, if there is one
  pub data FirstFault (asked : Asked) (names : Names) : List (List ℕ) → Schema → Option Fault → Type 0 where
    accepted : {met : List (List ℕ)} {schema : Schema} → finding asked schema ≡ fits → FirstFault asked names met schema None
    rejected : {met : List (List ℕ)} {schema : Schema} → finding asked schema ≡ differs → FirstFault asked names met schema (Some (mismatch asked))
    breaks : {met : List (List ℕ)} {schema : Schema} (text : List ℕ) (why : Unresolved) → finding asked schema ≡ refers text → follow names met text ≡ Err why
        → FirstFault asked names met schema (Some (unresolved why))
    goes_on : {met : List (List ℕ)} {schema : Schema} (text name : List ℕ) (next : Schema) (fault : Option Fault) → finding asked schema ≡ refers text
        → follow names met text ≡ Ok (name, next) → FirstFault asked names (name ∷ met) next fault → FirstFault asked names met schema fault
    of_members : {met : List (List ℕ)} {schema : Schema} (members : List Schema) (fault : Option Fault) → finding asked schema ≡ has_members members
        → FirstFaultAmong asked names met members fault → FirstFault asked names met schema fault

  -- the first fault among schemas, from the left, if there is one
  pub data FirstFaultAmong (asked : Asked) (names : Names) : List (List ℕ) → List Schema → Option Fault → Type 0 where
    none_left : {met : List (List ℕ)} → FirstFaultAmong asked names met [] None
    at_first : {met : List (List ℕ)} {schema : Schema} {rest : List Schema} (fault : Fault) → FirstFault asked names met schema (Some fault)
        → FirstFaultAmong asked names met (schema ∷ rest) (Some fault)
    at_rest : {met : List (List ℕ)} {schema : Schema} {rest : List Schema} (fault : Option Fault) → FirstFault asked names met schema None
        → FirstFaultAmong asked names met rest fault → FirstFaultAmong asked names met (schema ∷ rest) fault

mutual
  -- a schema is one of what is asked for, behind the names that were met: by its type, behind a reference, or by its members
  pub data IsOf (asked : Asked) (names : Names) : List (List ℕ) → Schema → Type 0 where
    by_type : {met : List (List ℕ)} {schema : Schema} → finding asked schema ≡ fits → IsOf asked names met schema
    behind_reference : {met : List (List ℕ)} {schema : Schema} (text name : List ℕ) (next : Schema) → finding asked schema ≡ refers text
        → follow names met text ≡ Ok (name, next) → IsOf asked names (name ∷ met) next → IsOf asked names met schema
    by_members : {met : List (List ℕ)} {schema : Schema} (members : List Schema) → finding asked schema ≡ has_members members
        → AreOf asked names met members → IsOf asked names met schema

  -- each of some schemas is
  pub data AreOf (asked : Asked) (names : Names) : List (List ℕ) → List Schema → Type 0 where
    no_more : {met : List (List ℕ)} → AreOf asked names met []
    one_more : {met : List (List ℕ)} {schema : Schema} {rest : List Schema} → IsOf asked names met schema → AreOf asked names met rest → AreOf asked names met (schema ∷ rest)

-- the one schema of all items
abbrev pub one_item : Option Items → Option Schema
one_item None = None
one_item (Some items) = elim (out-Items items) [ open_types.One item ↦ Some item | open_types.Tuple items ↦ None ]

-- by type, format, values, constant, subschemas, bounds of numbers and of lengths, array, object and reference
abbrev pub item_by : Option InstanceTypes → Option (List ℕ) → Option (List Json) → Option Json → Option Subschemas → Option NumberBounds → Option LengthBounds → Option ArrayParts
    → Option ObjectParts → Option (List ℕ) → Option Schema
item_by (Some (Single Array)) None None None None None None (Some array) None None = one_item (out-ArrayParts array).items
item_by types format vs const subschemas number string array object text = None

-- the schema of the items of a list that has nothing but its type and its array
abbrev pub item_of : Schema → Option Schema
item_of schema = elim (out-Schema schema) [
  | open_types.Bool b ↦ None
  | open_types.Object object ↦ item_by
      (out-SchemaObject object).instance_type
      (out-SchemaObject object).format
      (out-SchemaObject object).enum_values
      (out-SchemaObject object).const_value
      (out-SchemaObject object).subschemas
      (out-SchemaObject object).number
      (out-SchemaObject object).string
      (out-SchemaObject object).array
      (out-SchemaObject object).object
      (out-SchemaObject object).reference
]

-- the first fault of a schema as one of lists of texts, if there is one
pub data FirstFaultOfList (names : Names) (schema : Schema) : Option Fault → Type 0 where
  is_unresolved : (why : Unresolved) → ComesTo names [] schema (Err why) → FirstFaultOfList names schema (Some (unresolved why))
  no_list : (found : Schema) → ComesTo names [] schema (Ok found) → item_of found ≡ None → FirstFaultOfList names schema (Some (mismatch texts))
  of_items : (found item : Schema) (fault : Option Fault) → ComesTo names [] schema (Ok found) → item_of found ≡ Some item → FirstFault texts names [] item fault
      → FirstFaultOfList names schema fault

-- what an error says
abbrev pub fault_of : ScalarError → Fault
fault_of NotScalar = mismatch scalars
fault_of NotStringList = mismatch texts
fault_of (Dangling name) = unresolved (dangling name.now)
fault_of (Cycle name) = unresolved (cycle name.now)
