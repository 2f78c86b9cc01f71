-- Which struct the texts under flat names denote, and which fault is told first where they denote none: those of a
-- path, of a query, of headers or of a form (OpenAPI 3.0.3, Parameter Object; Request Body Object for forms).
use Rattle.std.specs.Prelude.{◌≡◌, ⊤, ℕ, zero, suc, false, List, Option, Some, None, option_map, option_and_then}
use Rattle.std.specs.declared.result.Result.TheVariants.{Ok}
use Rattle.schema_values.specs.declared.variables.VariableValue.{VariableValue}
use Rattle.schema_values.specs.declared.variables.VariableValue.TheVariants.{String, Components}
use Rattle.descriptors.specs.declared.desc.Desc.{Desc, out-Desc}
use Rattle.descriptors.specs.declared.desc.Desc.TheOpen.{Desc-F}
use Rattle.descriptors.specs.declared.desc.Field.{Field}
use Rattle.descriptors.specs.declared.desc.Presence.{Presence}
use Rattle.descriptors.specs.declared.desc.Presence.TheVariants.{Required, Nullable, Skipped, Default}
use Rattle.descriptors.specs.declared.table.Definition.{Definition}
use Rattle.descriptors.specs.declared.tree.Tree.{Tree, Fields as Parts}
use Rattle.descriptors.specs.Definitions.{definition}
use Rattle.typed_values.specs.declared.fault.FaultKind.TheVariants.{WrongKind}
use Rattle.typed_values.specs.declared.fault.Place.TheVariants.{Item}
use Rattle.typed_values.specs.Denotes.{Told, refused, below, by_presence, all_told, as_tree, items_told, room}
use Rattle.typed_values.specs.Levels.{DescLevel}
use Rattle.flat_maps.specs.Given.{Names}
use Rattle.scalar_texts.specs.Texts.{text_told}

-- a reference leads on, and any other descriptor is there
abbrev pub resolved_by : List Definition → (Desc → Option Desc) → Desc → DescLevel → Option Desc
resolved_by table next d (Desc-F.Ref name) = option_and_then next (definition table name)
resolved_by table next d _ = Some d

-- with no step left nothing is there
unfoldable pub resolved_at : List Definition → ℕ → Desc → Option Desc
resolved_at table zero d = None
resolved_at table (suc n) d = resolved_by table (resolved_at table n) d (out-Desc d)

-- a descriptor without the references that lead to it
unfoldable pub resolved : List Definition → Desc → Option Desc
resolved table d = resolved_at table (room table d) d

-- what is told of an item of a list of texts, at its place
abbrev pub told_item : List Definition → Desc → ℕ → List ℕ → Told
told_item table d i text = below (Item i) (text_told table text d)

-- a list of texts under a list: its length is told before its items
abbrev pub texts_by : List Definition → List (List ℕ) → DescLevel → Told
texts_by table texts (Desc-F.List d min max) = items_told (told_item table d) min max texts
texts_by table texts _ = refused WrongKind

-- a list of texts under what is no reference
abbrev pub texts_told : List Definition → List (List ℕ) → Option Desc → Told
texts_told table texts None = refused WrongKind
texts_told table texts (Some d) = texts_by table texts (out-Desc d)

-- what is given under a name denotes: one text, or a list of texts
abbrev pub given_told : List Definition → Desc → VariableValue → Told
given_told table d (String text) = text_told table text d
given_told table d (Components texts) = texts_told table texts (resolved table d)

-- a field that is none where it is absent
abbrev pub IsNoneIfAbsent : Presence → Type 0
IsNoneIfAbsent Required = ⊥
IsNoneIfAbsent Nullable = ⊤
IsNoneIfAbsent Skipped = ⊤
IsNoneIfAbsent (Default tree) = ⊥

-- the struct of some fields in order, of which each has what is told of its value, where it is there
abbrev pub fields_told : (Field → Option Told) → List Field → Told
fields_told value fs = as_tree Parts (all_told (λ i f. by_presence f (value f)) 0 fs)

-- what is told of a field, whose name is looked up
abbrev pub looked_up : List Definition → Names → Field → Option Told
looked_up table names f = option_map (given_told table f.desc) (names f.name)

-- the fields of a struct that takes unknown names
abbrev pub fields_by : DescLevel → Option (List Field)
fields_by (Desc-F.Struct fs false) = Some fs
fields_by _ = None

-- the fields whose names are flat
abbrev pub flat_fields : Option Desc → Option (List Field)
flat_fields None = None
flat_fields (Some d) = fields_by (out-Desc d)

-- what is told of the fields; a descriptor that has none takes no flat names
abbrev pub under_struct : (List Field → Told) → Option (List Field) → Told
under_struct told None = refused WrongKind
under_struct told (Some fs) = told fs

-- what flat names denote
abbrev pub flat_told : List Definition → Names → Desc → Told
flat_told table names d = under_struct (fields_told (looked_up table names)) (flat_fields (resolved table d))

-- the names denote the tree
abbrev pub FlatDenotes : List Definition → Desc → Names → Tree → Type 0
FlatDenotes table desc names tree = flat_told table names desc ≡ Ok tree
