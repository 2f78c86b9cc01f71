-- The schemas whose meaning is kept where they are written (OpenAPI 3.0.3, Schema Object).
use Rattle.std.specs.Prelude.{◌≡◌, ◌≤◌, ◌⊎◌, true, List, length, Some, None, IfSome}
use Rattle.schema_values.specs.declared.schema.InstanceType.TheVariants.{Null}
use Rattle.schema_values.specs.declared.schema.InstanceTypes.TheVariants.{Single}
use Rattle.schema_values.specs.declared.schema.Items.TheOpen.{Schema-F}
use Rattle.schema_values.specs.declared.schema.Schema.{Schema, out-Schema}
use Rattle.schema_values.specs.declared.schema.SchemaObject.{SchemaObject, out-SchemaObject}
use Rattle.schema_values.specs.declared.schema.Subschemas.{Subschemas}
use Rattle.schema_values.specs.Parts.{Parts, no_parts}
use Rattle.openapi_values.specs.Refusal.{refusal_of}
use Rattle.schema_meaning.specs.Definitions.{NamedSchemas}
use Rattle.schema_meaning.specs.Reached.{LeadsOnTo, IsReached}

-- the schema that admits every value and says nothing: the truth value true, or an object without any part
abbrev pub IsEmpty : Schema → Type 0
IsEmpty schema =
    (out-Schema schema ≡ Schema-F.Bool true)
    ⊎ ((object : SchemaObject) × (out-Schema schema ≡ Schema-F.Object object) × (out-SchemaObject object ≡ no_parts))

-- there is one schema, or none
abbrev pub AreAtMostOne : List Schema → Type 0
AreAtMostOne schemas = length schemas ≤ 1

-- `all_of` has at most one schema, and `not` the empty one
pub record SubschemasAreKept (subschemas : Subschemas) : Type 0 where
  pub at_most_one_all : IfSome subschemas.all_of AreAtMostOne
  pub not_empty : IfSome subschemas.not IsEmpty

-- no part stands that asks something of numbers, texts, lists or objects
pub record AsksOfNoForm (parts : Parts) : Type 0 where
  pub no_number : parts.number ≡ None
  pub no_string : parts.string ≡ None
  pub no_array : parts.array ≡ None
  pub no_object : parts.object ≡ None

-- the parts of a schema object that is no reference are those whose meaning is kept where the schema is written
pub record AreKept (parts : Parts) : Type 0 where
  pub no_const : parts.const_value ≡ None
  pub subschemas_kept : IfSome parts.subschemas SubschemasAreKept
  -- what is asked of one form of values stands beside a type
  pub typed : parts.instance_type ≡ None → AsksOfNoForm parts
  -- beside the type of null no subschemas stand
  pub null_alone : parts.instance_type ≡ Some (Single Null) → parts.subschemas ≡ None

-- so are those of a schema, of which nothing is asked where it is a truth value or a reference
abbrev pub PartsAreKept : Schema → Type 0
PartsAreKept schema = (object : SchemaObject) → out-Schema schema ≡ Schema-F.Object object → (out-SchemaObject object).reference ≡ None → AreKept (out-SchemaObject object)

-- the meaning of a schema is kept: it is not refused, its parts are kept, and no chain of references and subschemas comes back to it
pub record IsKept (definitions : NamedSchemas) (schema : Schema) : Type 0 where
  pub not_refused : refusal_of schema ≡ None
  pub parts_kept : PartsAreKept schema
  pub no_way_back : LeadsOnTo definitions schema schema → ⊥

-- the accepted subset: the meaning of each schema that is reached, the schema itself among them, is kept
abbrev pub IsAccepted : NamedSchemas → Schema → Type 0
IsAccepted definitions whole = (schema : Schema) → IsReached definitions whole schema → IsKept definitions schema
