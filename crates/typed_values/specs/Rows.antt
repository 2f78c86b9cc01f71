-- What each descriptor denotes on a sound table, with no count of steps.
use Rattle.std.specs.Prelude.{ℕ, Bool, false, List, Option, Some, None, Contains, IfSome}
use Rattle.std.specs.declared.result.Result.{Result}
use Rattle.std.specs.declared.result.Result.TheVariants.{Ok}
use Rattle.schema_values.specs.declared.json_value.Json.{Json}
use Rattle.schema_values.specs.declared.json_value.Json.TheOpen.{Json-F}
use Rattle.schema_values.specs.declared.json_value.Member.{Member}
use Rattle.descriptors.specs.declared.desc.Desc.{Desc}
use Rattle.descriptors.specs.declared.desc.Desc.TheOpen.{Desc-F}
use Rattle.descriptors.specs.declared.desc.Field.{Field}
use Rattle.descriptors.specs.declared.desc.TaggedVariant.{TaggedVariant}
use Rattle.descriptors.specs.declared.desc.Variant.{Variant}
use Rattle.descriptors.specs.declared.tree.Pair.{Pair}
use Rattle.descriptors.specs.declared.tree.Tree.{Tree, Fields as Parts, Any as Whole}
use Rattle.typed_values.specs.declared.fault.FaultKind.TheVariants.{WrongKind}
use Rattle.typed_values.specs.declared.fault.Place.TheVariants.{Name, Item}
use Rattle.descriptors.specs.declared.table.Definition.{Definition}
use Rattle.descriptors.specs.Definitions.{definition, tagged_fields}
use Rattle.typed_values.specs.Faults.{Trouble}
use Rattle.typed_values.specs.Denotes.{Told, below, told, all_told, as_tree, as_pair, refused, nought, truth, character, number, words, one_of_names, optional, items_told, entries_told, by_presence, value_named, unless_denied, denied_name, at_definition, first_told, external, tagged}
use Rattle.typed_values.specs.Parts.{IsPart}
use Rattle.typed_values.specs.Levels.{DescLevel}

-- what is told of an item, at its place in the list
abbrev pub told_item : List Definition → Desc → Desc → ℕ → Json → Told
told_item table whole d i j = below (Item i) (told table whole j d)

-- what is told of a member of a map, below its name
abbrev pub told_entry : List Definition → Desc → Desc → Member → Result Pair Trouble
told_entry table whole d m = as_pair m.name (below (Name m.name) (told table whole m.value d))

-- what is told of a value, where it is there
abbrev pub value_denotes : List Definition → Desc → Desc → Option Json → Option Told
value_denotes table whole d None = None
value_denotes table whole d (Some j) = Some (told table whole j d)

-- what a field gives among the members of an object
abbrev pub told_field : List Definition → Desc → List Member → Field → Told
told_field table whole ms f = by_presence f (value_denotes table whole f.desc (value_named ms f.name))

-- the trees of all fields in order, or the first fault
abbrev pub told_fields : List Definition → Desc → List Member → List Field → Result (List Tree) Trouble
told_fields table whole ms fs = all_told (λ i f. told_field table whole ms f) 0 fs

-- the struct of some members, with its unknown names
abbrev pub told_struct : List Definition → Desc → List Field → Bool → List Member → Told
told_struct table whole fs deny ms = unless_denied (denied_name deny fs ms) (as_tree Parts (told_fields table whole ms fs))

-- what is told of a list, item by item
abbrev pub list_row : List Definition → Desc → Desc → Option ℕ → Option ℕ → Json-F Json Member → Told
list_row table whole d min max (Json-F.List js) = items_told (told_item table whole d) min max js
list_row table whole d min max _ = refused WrongKind

-- what is told of an object under a struct
abbrev pub struct_row : List Definition → Desc → List Field → Bool → Json-F Json Member → Told
struct_row table whole fs deny (Json-F.Object ms) = told_struct table whole fs deny ms
struct_row table whole fs deny _ = refused WrongKind

-- what is told of an object under a map
abbrev pub map_row : List Definition → Desc → Desc → Json-F Json Member → Told
map_row table whole d (Json-F.Object ms) = entries_told (λ j. told table whole j d) ms
map_row table whole d _ = refused WrongKind

-- one row for each descriptor
abbrev pub row : List Definition → Desc → Json → Json-F Json Member → DescLevel → Told
row table whole j x Desc-F.Any = Ok (Whole j)
row table whole j x Desc-F.Never = refused WrongKind
row table whole j x Desc-F.Null = nought x
row table whole j x Desc-F.Bool = truth x
row table whole j x Desc-F.Char = character x
row table whole j x (Desc-F.Int kind min max) = number kind min max x
row table whole j x (Desc-F.Text min max format) = words min max x
row table whole j x (Desc-F.Enumeration ns) = one_of_names ns x
row table whole j x (Desc-F.Option d) = optional x (told table whole j d)
row table whole j x (Desc-F.List d min max) = list_row table whole d min max x
row table whole j x (Desc-F.Map d) = map_row table whole d x
row table whole j x (Desc-F.Struct fs deny) = struct_row table whole fs deny x
row table whole j x (Desc-F.External vs) = external (λ json d. told table whole json d) vs x
row table whole j x (Desc-F.Tagged tag vs) = tagged (λ json. json) (λ fs. struct_row table whole fs false x) tag vs x
row table whole j x (Desc-F.Untagged ds) = first_told 0 (told table whole j) ds
row table whole j x (Desc-F.Ref name) = at_definition (told table whole j) (definition table name)

-- each of some descriptors, or of those of some fields, is a part
abbrev pub AreParts : List Definition → Desc → List Desc → Type 0
AreParts table whole ds = (d : Desc) → Contains ds d → IsPart table whole d

-- the same of the descriptors of some fields
abbrev pub AreFieldsOf : List Definition → Desc → List Field → Type 0
AreFieldsOf table whole fs = (f : Field) → Contains fs f → IsPart table whole f.desc

-- the same of the payloads of some variants
abbrev pub ArePayloadsOf : List Definition → Desc → List Variant → Type 0
ArePayloadsOf table whole vs = (v : Variant) → Contains vs v → IfSome v.payload (IsPart table whole)

-- the same of the fields of some tagged variants
abbrev pub AreVariantsOf : List Definition → Desc → List TaggedVariant → Type 0
AreVariantsOf table whole vs = (v : TaggedVariant) → Contains vs v → AreFieldsOf table whole (tagged_fields v)
