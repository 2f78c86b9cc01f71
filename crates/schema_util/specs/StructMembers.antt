-- The members of a struct, as its schema has them (JSON Schema: `properties`, `required`, `anyOf`, `allOf`).
use Rattle.std.specs.Prelude.{◌≡◌, ◌&&◌, ◌++◌, ℕ, Bool, true, false, List, [], ◌∷◌, map, Option, Some, None, Result, Ok, Err, bytes_eq}
use Rattle.std.specs.List.{list_any}
use Rattle.std.specs.Str.{encode_utf8_all}
use Rattle.schema_values.specs.declared.schema.ObjectParts.{ObjectParts, out-ObjectParts}
use Rattle.schema_values.specs.declared.schema.Property.{Property, out-Property}
use Rattle.schema_values.specs.declared.schema.Schema.{Schema}
use Rattle.schema_values.specs.declared.schema.Subschemas.{Subschemas}
use Rattle.schema_values.specs.Order.{property_name, sorted_by}
use Rattle.schema_util.specs.declared.struct_members.Schema2StructError.{Schema2StructError}
use Rattle.schema_util.specs.declared.struct_members.Schema2StructError.TheVariants as code
use Rattle.schema_util.specs.declared.struct_members.StructMember.{StructMember}
use Rattle.schema_util.specs.Descriptions.{description_and_schema}
use Rattle.schema_util.specs.Forms.{SchemaForm, schema_form, truth, bare, combination, struct, values, other, SchemaKind, all_of, any_of, kind_of}
use Rattle.schema_util.specs.References.{Unresolved, dangling, cycle, Names, follow, reference_of}

-- whether some names have a name
abbrev pub is_named : List (List ℕ) → List ℕ → Bool
is_named names name = list_any (λ one. bytes_eq one name) names

-- a property as a member, required where it may be and the names of required ones have its name
abbrev pub member_of : Bool → List (List ℕ) → Property → StructMember
member_of required names p = record {
  name = (out-Property p).name;
  description = (description_and_schema (out-Property p).schema).0;
  schema = (description_and_schema (out-Property p).schema).1;
  required = required && is_named names (out-Property p).name;
}

-- the properties of an object as members, in the order of their names
abbrev pub own_members : Bool → Option ObjectParts → List StructMember
own_members required None = []
own_members required (Some object) = map (member_of required (out-ObjectParts object).required) (sorted_by property_name (out-ObjectParts object).properties)

-- the schemas whose members come too: those of an `any_of`, none of them required, or the one of an `all_of`; no answer for other subschemas
abbrev pub flattened_of_kind : Bool → SchemaKind → Option (Bool × List Schema)
flattened_of_kind required (any_of schemas) = Some (false, schemas)
flattened_of_kind required (all_of (schema ∷ [])) = Some (required, schema ∷ [])
flattened_of_kind required kind = None

abbrev pub flattened : Bool → Option Subschemas → Option (Bool × List Schema)
flattened required None = Some (required, [])
flattened required (Some subschemas) = flattened_of_kind required (kind_of subschemas)

-- whether a form is that of an enumeration: values, or subschemas alone
abbrev pub is_enumeration : SchemaForm → Bool
is_enumeration values = true
is_enumeration (combination subschemas) = true
is_enumeration form = false

-- whether a form is that of no object
abbrev pub is_no_object : SchemaForm → Bool
is_no_object (truth b) = true
is_no_object bare = true
is_no_object other = true
is_no_object form = false

-- why a schema is that of no struct
pub data Misfit : Type 0 where
  unresolved : Unresolved → Misfit
  invalid_subschema : Misfit
  invalid_enum : Misfit
  invalid_type : Misfit

-- some members and those of an answer, if that has any
abbrev pub behind : List StructMember → Result (List StructMember) Misfit → Result (List StructMember) Misfit
behind own (Ok more) = Ok (own ++ more)
behind own (Err why) = Err why

mutual
  -- the members that a schema gives, behind the names that were met, where they may be required or not
  pub data Gives (names : Names) : List (List ℕ) → Bool → Schema → Result (List StructMember) Misfit → Type 0 where
    breaks : {met : List (List ℕ)} {required : Bool} {s : Schema} (text : List ℕ) (why : Unresolved) → reference_of s ≡ Some text → follow names met text ≡ Err why
        → Gives names met required s (Err (unresolved why))
    goes_on : {met : List (List ℕ)} {required : Bool} {s : Schema} (text name : List ℕ) (next : Schema) (end : Result (List StructMember) Misfit)
        → reference_of s ≡ Some text → follow names met text ≡ Ok (name, next) → Gives names (name ∷ met) required next end → Gives names met required s end
    adds : {met : List (List ℕ)} {required : Bool} {s : Schema} (object : Option ObjectParts) (subschemas : Option Subschemas) (may_require : Bool) (schemas : List Schema)
        (end : Result (List StructMember) Misfit) → schema_form s ≡ struct object subschemas → flattened required subschemas ≡ Some (may_require, schemas)
        → GiveAll names met may_require schemas end → Gives names met required s (behind (own_members required object) end)
    has_others : {met : List (List ℕ)} {required : Bool} {s : Schema} (object : Option ObjectParts) (subschemas : Option Subschemas)
        → schema_form s ≡ struct object subschemas → flattened required subschemas ≡ None → Gives names met required s (Err invalid_subschema)
    of_enumeration : {met : List (List ℕ)} {required : Bool} {s : Schema} → is_enumeration (schema_form s) ≡ true → Gives names met required s (Err invalid_enum)
    of_no_object : {met : List (List ℕ)} {required : Bool} {s : Schema} → is_no_object (schema_form s) ≡ true → Gives names met required s (Err invalid_type)

  -- the members that schemas give in turn, or the first reason why one gives none
  pub data GiveAll (names : Names) : List (List ℕ) → Bool → List Schema → Result (List StructMember) Misfit → Type 0 where
    none_left : {met : List (List ℕ)} {required : Bool} → GiveAll names met required [] (Ok [])
    stops : {met : List (List ℕ)} {required : Bool} {s : Schema} {rest : List Schema} (why : Misfit) → Gives names met required s (Err why)
        → GiveAll names met required (s ∷ rest) (Err why)
    then_rest : {met : List (List ℕ)} {required : Bool} {s : Schema} {rest : List Schema} (members : List StructMember) (end : Result (List StructMember) Misfit)
        → Gives names met required s (Ok members) → GiveAll names met required rest end → GiveAll names met required (s ∷ rest) (behind members end)

-- what an error says, unless there was not enough memory
abbrev pub misfit_of : Schema2StructError → Option Misfit
misfit_of (code.Dangling name) = Some (unresolved (dangling (encode_utf8_all name)))
misfit_of (code.Cycle name) = Some (unresolved (cycle (encode_utf8_all name)))
misfit_of code.InvalidSubschema = Some invalid_subschema
misfit_of code.InvalidEnum = Some invalid_enum
misfit_of code.InvalidType = Some invalid_type
misfit_of code.OutOfMemory = None
