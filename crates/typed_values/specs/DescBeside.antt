-- A fold over a descriptor in which each smaller descriptor stands beside what is made of it.
use Rattle.std.specs.Prelude.{map}
use Rattle.std.specs.Option.{option_map}
use Rattle.descriptors.specs.declared.desc.Desc.{Desc, Any, Never, Null, Bool, Char, Int, Text, Enumeration, Option as OptionOf, List as ListOf, Map, Struct, External, Tagged, Untagged, Ref}
use Rattle.descriptors.specs.declared.desc.Desc.TheOpen.{Desc-F, Field-F, TaggedVariant-F, Variant-F}
use Rattle.descriptors.specs.declared.desc.Desc.TheFolds.{fold-Desc}
use Rattle.descriptors.specs.declared.desc.Field.{Field}
use Rattle.descriptors.specs.declared.desc.TaggedVariant.{TaggedVariant, roll-TaggedVariant}
use Rattle.descriptors.specs.declared.desc.Variant.{Variant}
use Rattle.descriptors.specs.Definitions.{tagged_description, tagged_fields, tagged_name}
use Rattle.typed_values.specs.Levels.{DescLevel, FieldOf, TaggedOf, VariantOf}

-- a descriptor, and what is made of it
pub record Beside (X : Type 0) : Type 0 where
  pub desc : Desc
  pub made : X

-- a field whose descriptor stands so
abbrev pub FieldBeside : Type 0 → Type 0
FieldBeside X = FieldOf (Beside X)

-- a tagged variant of such fields
abbrev pub TaggedBeside : Type 0 → Type 0
TaggedBeside X = TaggedOf (FieldBeside X)

-- a variant whose payload stands so
abbrev pub VariantBeside : Type 0 → Type 0
VariantBeside X = VariantOf (Beside X)

-- one level of a descriptor, where each smaller descriptor stands so
abbrev pub LevelBeside : Type 0 → Type 0
LevelBeside X = Desc-F (Beside X) (FieldBeside X) (TaggedBeside X) (VariantBeside X)

-- the descriptor alone
abbrev pub desc_beside : {X : Type 0} → Beside X → Desc
desc_beside x = x.desc

-- the field alone
abbrev pub field_beside : {X : Type 0} → FieldBeside X → Field
field_beside f = record { name = f.name; desc = f.desc.desc; presence = f.presence; description = f.description }

-- the tagged variant alone
abbrev pub tagged_beside : {X : Type 0} → TaggedBeside X → TaggedVariant
tagged_beside v = roll-TaggedVariant (record { name = v.name; description = v.description; fields = map field_beside v.fields })

-- the variant alone
abbrev pub variant_beside : {X : Type 0} → VariantBeside X → Variant
variant_beside v = record { name = v.name; description = v.description; payload = option_map desc_beside v.payload }

-- the descriptor of one level
abbrev pub desc_of_level : {X : Type 0} → LevelBeside X → Desc
desc_of_level Desc-F.Any = Any
desc_of_level Desc-F.Never = Never
desc_of_level Desc-F.Null = Null
desc_of_level Desc-F.Bool = Bool
desc_of_level Desc-F.Char = Char
desc_of_level (Desc-F.Int kind min max) = Int kind min max
desc_of_level (Desc-F.Text min max format) = Text min max format
desc_of_level (Desc-F.Enumeration ns) = Enumeration ns
desc_of_level (Desc-F.Option x) = OptionOf x.desc
desc_of_level (Desc-F.List x min max) = ListOf x.desc min max
desc_of_level (Desc-F.Map x) = Map x.desc
desc_of_level (Desc-F.Struct fs deny) = Struct (map field_beside fs) deny
desc_of_level (Desc-F.External vs) = External (map variant_beside vs)
desc_of_level (Desc-F.Tagged tag vs) = Tagged tag (map tagged_beside vs)
desc_of_level (Desc-F.Untagged xs) = Untagged (map desc_beside xs)
desc_of_level (Desc-F.Ref name) = Ref name

-- a field of one level
abbrev pub same_field : {X : Type 0} → Field-F (Beside X) (FieldBeside X) (TaggedBeside X) (VariantBeside X) → FieldBeside X
same_field f = record { name = f.name; desc = f.desc; presence = f.presence; description = f.description }

-- a tagged variant of one level
abbrev pub same_tagged : {X : Type 0} → TaggedVariant-F (Beside X) (FieldBeside X) (TaggedBeside X) (VariantBeside X) → TaggedBeside X
same_tagged v = record { name = v.name; description = v.description; fields = v.fields }

-- a variant of one level
abbrev pub same_variant : {X : Type 0} → Variant-F (Beside X) (FieldBeside X) (TaggedBeside X) (VariantBeside X) → VariantBeside X
same_variant v = record { name = v.name; description = v.description; payload = v.payload }

-- one level: its descriptor, and what a step makes of it
abbrev pub level_beside : {X : Type 0} → (LevelBeside X → X) → LevelBeside X → Beside X
level_beside step level = record { desc = desc_of_level level; made = step level }

-- what the steps make of a whole descriptor, the smaller descriptors first
unfoldable pub made_of : {X : Type 0} → (LevelBeside X → X) → Desc → X
made_of {X} step d = (fold-Desc (Beside X) (FieldBeside X) (TaggedBeside X) (VariantBeside X) (level_beside step) same_field same_tagged same_variant d).made

-- a descriptor beside what a function makes of it
abbrev pub beside_with : {X : Type 0} → (Desc → X) → Desc → Beside X
beside_with f d = record { desc = d; made = f d }

-- a field whose descriptor stands so
abbrev pub field_with : {X : Type 0} → (Desc → X) → Field → FieldBeside X
field_with f field = record { name = field.name; desc = beside_with f field.desc; presence = field.presence; description = field.description }

-- a tagged variant of such fields
abbrev pub tagged_with : {X : Type 0} → (Desc → X) → TaggedVariant → TaggedBeside X
tagged_with f v = record { name = tagged_name v; description = tagged_description v; fields = map (field_with f) (tagged_fields v) }

-- a variant whose payload stands so
abbrev pub variant_with : {X : Type 0} → (Desc → X) → Variant → VariantBeside X
variant_with f v = record { name = v.name; description = v.description; payload = option_map (beside_with f) v.payload }

-- one level, where each smaller descriptor stands so
abbrev pub level_with : {X : Type 0} → (Desc → X) → DescLevel → LevelBeside X
level_with f Desc-F.Any = Desc-F.Any
level_with f Desc-F.Never = Desc-F.Never
level_with f Desc-F.Null = Desc-F.Null
level_with f Desc-F.Bool = Desc-F.Bool
level_with f Desc-F.Char = Desc-F.Char
level_with f (Desc-F.Int kind min max) = Desc-F.Int kind min max
level_with f (Desc-F.Text min max format) = Desc-F.Text min max format
level_with f (Desc-F.Enumeration ns) = Desc-F.Enumeration ns
level_with f (Desc-F.Option d) = Desc-F.Option (beside_with f d)
level_with f (Desc-F.List d min max) = Desc-F.List (beside_with f d) min max
level_with f (Desc-F.Map d) = Desc-F.Map (beside_with f d)
level_with f (Desc-F.Struct fs deny) = Desc-F.Struct (map (field_with f) fs) deny
level_with f (Desc-F.External vs) = Desc-F.External (map (variant_with f) vs)
level_with f (Desc-F.Tagged tag vs) = Desc-F.Tagged tag (map (tagged_with f) vs)
level_with f (Desc-F.Untagged ds) = Desc-F.Untagged (map (beside_with f) ds)
level_with f (Desc-F.Ref name) = Desc-F.Ref name
