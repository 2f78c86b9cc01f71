-- What a document says of a struct and of its fields, beside their types.
use Rattle.std.specs.Prelude.{◌++◌, ℕ, Bool, true, false, List, [], ◌∷◌, Some, None}
use Rattle.descriptors.specs.declared.desc.Presence.{Presence}
use Rattle.descriptors.specs.declared.desc.Presence.TheVariants.{Required, Nullable, Skipped, Default}
use Rattle.descriptors.specs.declared.tree.Tree.{Tree}
use Rattle.api_types.specs.declared.struct_head.FieldHead.{FieldHead}
use Rattle.api_types.specs.declared.struct_head.StructHead.{StructHead}

-- a field by its name and its presence, without a description
abbrev pub field_head : List ℕ → Presence → FieldHead
field_head name presence = record { name = name; presence = presence; description = None }

-- a field that has to be there
abbrev pub required : List ℕ → FieldHead
required name = field_head name Required

-- an option, which may be absent or null
abbrev pub nullable : List ℕ → FieldHead
nullable name = field_head name Nullable

-- an option that is left out where it is none
abbrev pub skipped : List ℕ → FieldHead
skipped name = field_head name Skipped

-- a field that has a tree where it is absent
abbrev pub with_default : List ℕ → Tree → FieldHead
with_default name tree = field_head name (Default tree)

-- a field with a description
abbrev pub described : List ℕ → FieldHead → FieldHead
described text head = record { name = head.name; presence = head.presence; description = Some text }

-- a struct of some fields, without a description, which allows other names
abbrev pub struct_of : List FieldHead → StructHead
struct_of fields = record { description = None; deny_unknown = false; fields = fields }

-- a struct with a description
abbrev pub described_struct : List ℕ → StructHead → StructHead
described_struct text head = record { description = Some text; deny_unknown = head.deny_unknown; fields = head.fields }

-- a struct that refuses other names
abbrev pub closed : StructHead → StructHead
closed head = record { description = head.description; deny_unknown = true; fields = head.fields }

-- one more field
abbrev pub with_field : FieldHead → StructHead → StructHead
with_field field head = record { description = head.description; deny_unknown = head.deny_unknown; fields = head.fields ++ field ∷ [] }

-- whether a field is left out where it is none
abbrev pub skips : FieldHead → Bool
skips head = by_presence head.presence where
  by_presence : Presence → Bool
  by_presence Required = false
  by_presence Nullable = false
  by_presence Skipped = true
  by_presence (Default tree) = false
