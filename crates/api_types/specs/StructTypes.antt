-- A struct by its head and the types of its fields: its descriptor and the definitions behind it.
use Rattle.std.specs.Prelude.{◌++◌, ℕ, Bool, if◌then◌else◌, List, [], ◌∷◌, map}
use Rattle.descriptors.specs.declared.desc.Desc.{Desc}
use Rattle.descriptors.specs.declared.desc.Desc.TheVariants as descs
use Rattle.descriptors.specs.declared.desc.Field.{Field}
use Rattle.descriptors.specs.declared.table.Definition.{Definition}
use Rattle.descriptors.specs.Definitions.{definition_with}
use Rattle.api_types.specs.declared.struct_head.FieldHead.{FieldHead}
use Rattle.api_types.specs.declared.struct_head.StructHead.{StructHead}
use Rattle.api_types.specs.Kinds.{Kind, kind_desc, definitions_behind}

-- the field of a head and a descriptor
abbrev pub field_with : FieldHead → Desc → Field
field_with head desc = record { name = head.name; desc = desc; presence = head.presence; description = head.description }

-- the fields of some descriptors, with their heads in order
abbrev pub fields_with : List Desc → List FieldHead → List Field
fields_with [] heads = []
fields_with (d ∷ ds) [] = []
fields_with (d ∷ ds) (h ∷ hs) = field_with h d ∷ fields_with ds hs

-- the descriptor of a struct's own
abbrev pub struct_with : StructHead → List Kind → Desc
struct_with head kinds = descs.Struct (fields_with (map kind_desc kinds) head.fields) head.deny_unknown

-- the definition of a struct
abbrev pub struct_definition : List ℕ → StructHead → List Kind → Definition
struct_definition name head kinds = definition_with name head.description (struct_with head kinds)

-- a struct in place has no definition of its own
abbrev pub own_definitions : Bool → List ℕ → StructHead → List Kind → List Definition
own_definitions in_place name head kinds = if in_place then [] else struct_definition name head kinds ∷ []

-- the definitions behind a struct: those of its fields, and its own
abbrev pub struct_definitions : Bool → List ℕ → StructHead → List Kind → List Definition
struct_definitions in_place name head kinds = definitions_behind kinds ++ own_definitions in_place name head kinds

-- the descriptor of a struct: its own in place, else the reference to its definition
abbrev pub struct_desc : Bool → List ℕ → StructHead → List Kind → Desc
struct_desc in_place name head kinds = if in_place then struct_with head kinds else descs.Ref name
