-- In which words the first fault is told, where a map of texts denotes no value: the variables of a path, and headers
-- (OpenAPI 3.0.3, Parameter Object). They name no place. The words of a value of another kind are of this library, and
-- are told by the descriptor that it stands under.
use Rattle.std.specs.Prelude.{ℕ, List, [], ◌∷◌, Option, Some, None, codes, if◌then◌else◌, bytes_eq}
use Rattle.std.specs.declared.result.Result.TheVariants.{Ok, Err}
use Rattle.schema_values.specs.declared.variables.VariableValue.{VariableValue}
use Rattle.schema_values.specs.declared.variables.VariableValue.TheVariants.{String, Components}
use Rattle.descriptors.specs.declared.desc.Desc.{Desc, out-Desc}
use Rattle.descriptors.specs.declared.desc.Desc.TheOpen.{Desc-F}
use Rattle.descriptors.specs.declared.desc.Field.{Field}
use Rattle.descriptors.specs.declared.table.Definition.{Definition}
use Rattle.typed_values.specs.declared.fault.FaultKind.{FaultKind}
use Rattle.typed_values.specs.declared.fault.FaultKind.TheVariants.{WrongKind}
use Rattle.typed_values.specs.declared.fault.Place.{Place}
use Rattle.typed_values.specs.declared.fault.Place.TheVariants.{Name, Item}
use Rattle.typed_values.specs.Denotes.{Told}
use Rattle.typed_values.specs.Faults.{Trouble, kind_text}
use Rattle.typed_values.specs.Levels.{DescLevel}
use Rattle.flat_maps.specs.Flat.{resolved, flat_fields, flat_told}
use Rattle.flat_maps.specs.Given.{Names}
use Rattle.flat_maps.specs.Held.{held}

-- what takes no text and no list of texts
abbrev pub unsupported : List ℕ
unsupported = codes "unsupported type"

-- the whole is no struct that takes unknown names
abbrev pub struct_words : DescLevel → List ℕ
struct_words (Desc-F.Struct fs deny) = unsupported
struct_words _ = codes "must be applied to a flattened struct rather than a raw type"

-- the same of what references lead to
abbrev pub whole_words : Option Desc → List ℕ
whole_words None = codes "must be applied to a flattened struct rather than a raw type"
whole_words (Some d) = struct_words (out-Desc d)

-- a text stands where none is taken
abbrev pub text_words : DescLevel → List ℕ
text_words (Desc-F.Struct fs deny) = codes "deserialization container must be fully flattened"
text_words (Desc-F.List d min max) = codes "a string may not be used in place of a sequence of values"
text_words _ = unsupported

-- a list of texts stands where none is taken
abbrev pub list_words : DescLevel → List ℕ
list_words (Desc-F.Struct fs deny) = codes "deserialization container must be fully flattened"
list_words Desc-F.Bool = codes "a list of values may not be used in place of a single value"
list_words Desc-F.Char = codes "a list of values may not be used in place of a single value"
list_words (Desc-F.Int kind min max) = codes "a list of values may not be used in place of a single value"
list_words (Desc-F.Text min max format) = codes "a list of values may not be used in place of a single value"
list_words (Desc-F.Enumeration ns) = codes "a list of values may not be used in place of a single value"
list_words _ = unsupported

-- the words of what a descriptor holds
abbrev pub held_words : (DescLevel → List ℕ) → Option Desc → List ℕ
held_words words None = unsupported
held_words words (Some d) = words (out-Desc d)

-- an item of a list of texts
abbrev pub item_words : List Definition → DescLevel → List ℕ
item_words table (Desc-F.List d min max) = held_words text_words (held table d)
item_words table _ = unsupported

-- what is given under a name: one text, or a list of texts
abbrev pub given_words : List Definition → Desc → VariableValue → List ℕ
given_words table d (String text) = held_words text_words (held table d)
given_words table d (Components texts) = held_words list_words (held table d)

-- what is given under the name of a field, or an item of it
abbrev pub part_words : List Definition → Desc → List Place → Option VariableValue → List ℕ
part_words table d (place ∷ inner) given = held_words (item_words table) (resolved table d)
part_words table d [] None = unsupported
part_words table d [] (Some given) = given_words table d given

-- the first field of a name
abbrev pub field_named : List ℕ → List Field → Option Field
field_named name [] = None
field_named name (f ∷ fs) = if bytes_eq f.name name then Some f else field_named name fs

-- a value of another kind in a field
abbrev pub field_words : List Definition → Names → List Place → Option Field → List ℕ
field_words table names inner None = unsupported
field_words table names inner (Some f) = part_words table f.desc inner (names f.name)

-- the same among the fields of a struct
abbrev pub fields_words : List Definition → Names → List ℕ → List Place → Option (List Field) → List ℕ
fields_words table names name inner None = unsupported
fields_words table names name inner (Some fs) = field_words table names inner (field_named name fs)

-- a value of another kind, by the path that leads to it: the whole, a field, or an item of a field's list
abbrev pub path_words : List Definition → Names → Option Desc → List Place → List ℕ
path_words table names d [] = whole_words d
path_words table names d (Name name ∷ inner) = fields_words table names name inner (flat_fields d)
path_words table names d (Item k ∷ inner) = unsupported

-- each fault has the words of its kind, but for a value of another kind
abbrev pub kind_words : FaultKind → List ℕ → List ℕ
kind_words WrongKind words = words
kind_words kind words = kind_text kind

-- the words of a fault
abbrev pub fault_words : List Definition → Names → Desc → Trouble → List ℕ
fault_words table names d trouble = kind_words trouble.kind (path_words table names (resolved table d) trouble.path)

-- the words of what is told, none where it is a tree
abbrev pub words_of : (Trouble → List ℕ) → Told → Option (List ℕ)
words_of words (Ok tree) = None
words_of words (Err trouble) = Some (words trouble)

-- the words of the first fault, where flat names denote nothing
abbrev pub flat_refusal : List Definition → Names → Desc → Option (List ℕ)
flat_refusal table names d = words_of (fault_words table names d) (flat_told table names d)
