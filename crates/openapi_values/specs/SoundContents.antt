-- When the contents of a schema are sound: the JSON values, the names and the numbers in it, and in each schema that
-- stands in it (RFC 8259, sections 4 and 6).
use Rattle.std.specs.Prelude.{⊤, ℕ, pos, map, Option, IfSome}
use Rattle.std.specs.List.{AllByRecursion}
use Rattle.schema_values.specs.declared.schema.ArrayParts.{ArrayParts, ArrayParts-F}
use Rattle.schema_values.specs.declared.schema.Items.{Items}
use Rattle.schema_values.specs.declared.schema.Items.TheFolds.{every-Schema}
use Rattle.schema_values.specs.declared.schema.NumberBounds.{NumberBounds}
use Rattle.schema_values.specs.declared.schema.ObjectParts.{ObjectParts, ObjectParts-F}
use Rattle.schema_values.specs.declared.schema.Property.{Property}
use Rattle.schema_values.specs.declared.schema.Schema.{Schema}
use Rattle.schema_values.specs.declared.schema.SchemaObject.{SchemaObject}
use Rattle.schema_values.specs.declared.schema.Subschemas.{Subschemas}
use Rattle.schema_values.specs.Parts.{Parts}
use Rattle.schema_values.specs.Sound.{IsSound, IsWhole, AreDistinct}
use Rattle.schema_values.specs.SoundMembers.{HasSoundMembers}

-- one level of a type, with the smaller schemas themselves in it
abbrev pub OneLevel : ((A B C D E F G : Type 0) → Type 0) → Type 0
OneLevel F = F Items Schema ArrayParts ObjectParts Property SchemaObject Subschemas

-- a length or a count fits 64 bits
abbrev pub IsCount : ℕ → Type 0
IsCount n = IsWhole (pos n)

-- the least and the greatest length or count fit 64 bits, where they are given
abbrev pub AreCounts : Option ℕ → Option ℕ → Type 0
AreCounts min max = IfSome min IsCount × IfSome max IsCount

-- the bounds of a number fit 64 bits
pub record AreWholeBounds (bounds : NumberBounds) : Type 0 where
  pub minimum : IfSome bounds.minimum IsWhole
  pub exclusive_minimum : IfSome bounds.exclusive_minimum IsWhole
  pub maximum : IfSome bounds.maximum IsWhole
  pub exclusive_maximum : IfSome bounds.exclusive_maximum IsWhole

-- the counts of the items of an array fit 64 bits
abbrev pub HasSoundCounts : OneLevel ArrayParts-F → Type 0
HasSoundCounts array = AreCounts array.min array.max

-- the names of an object's properties are distinct, and the counts of its members fit 64 bits
pub record HasSoundProperties (object : OneLevel ObjectParts-F) : Type 0 where
  pub names : AreDistinct (map (λ p. p.name) object.properties)
  pub counts : AreCounts object.min object.max

-- the parts of a schema object itself: the JSON values are sound, the names of the extensions distinct, and the bounds and
-- lengths fit 64 bits
pub record HasSoundValues (parts : Parts) : Type 0 where
  pub default : IfSome parts.default IsSound
  pub values : IfSome parts.enum_values (AllByRecursion IsSound)
  pub const : IfSome parts.const_value IsSound
  pub extensions : HasSoundMembers parts.extensions
  pub number : IfSome parts.number AreWholeBounds
  pub string : IfSome parts.string (λ lengths. AreCounts lengths.min lengths.max)

-- the same of a schema and of each schema that stands in it
abbrev pub HasSoundContents : Schema → Type 0
HasSoundContents = every-Schema (λ items. ⊤) (λ schema. ⊤) HasSoundCounts HasSoundProperties (λ property. ⊤) HasSoundValues (λ subschemas. ⊤)
