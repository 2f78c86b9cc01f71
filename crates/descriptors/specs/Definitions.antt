-- The definitions of a table, by name.
use Rattle.std.specs.Prelude.{ℕ, List, [], ◌∷◌, Option, Some, None, if◌then◌else◌, bytes_eq}
use Rattle.descriptors.specs.declared.desc.Desc.{Desc}
use Rattle.descriptors.specs.declared.desc.Field.{Field}
use Rattle.descriptors.specs.declared.desc.Named.{Named}
use Rattle.descriptors.specs.declared.desc.TaggedVariant.{TaggedVariant, out-TaggedVariant}
use Rattle.descriptors.specs.declared.desc.Variant.{Variant}
use Rattle.descriptors.specs.declared.table.Definition.{Definition}

-- the definition of a name, description and all
abbrev pub entry_of : List Definition → List ℕ → Option Definition
entry_of [] name = None
entry_of (e ∷ es) name = if bytes_eq e.name name then Some e else entry_of es name

-- the descriptor that a name is defined as
abbrev pub definition : List Definition → List ℕ → Option Desc
definition [] name = None
definition (e ∷ es) name = if bytes_eq e.name name then Some e.desc else definition es name

-- the name of a field
abbrev pub field_name : Field → List ℕ
field_name field = field.name

-- a name of an enumeration
abbrev pub listed_name : Named → List ℕ
listed_name named = named.name

-- the name of a variant
abbrev pub variant_name : Variant → List ℕ
variant_name v = v.name

-- the name of a tagged variant
abbrev pub tagged_name : TaggedVariant → List ℕ
tagged_name v = (out-TaggedVariant v).name

-- the fields of a tagged variant
abbrev pub tagged_fields : TaggedVariant → List Field
tagged_fields v = (out-TaggedVariant v).fields

-- the description of a tagged variant
abbrev pub tagged_description : TaggedVariant → Option (List ℕ)
tagged_description v = (out-TaggedVariant v).description

-- the name of a definition
abbrev pub definition_name : Definition → List ℕ
definition_name e = e.name

-- a definition by its parts
abbrev pub definition_with : List ℕ → Option (List ℕ) → Desc → Definition
definition_with name description desc = record { name = name; description = description; desc = desc }
