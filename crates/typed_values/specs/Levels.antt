-- One level of a tree or of a descriptor, whatever stands for the smaller ones.
use Rattle.descriptors.specs.declared.desc.Desc.{Desc}
use Rattle.descriptors.specs.declared.desc.Desc.TheOpen.{Desc-F, Field-F, TaggedVariant-F, Variant-F}
use Rattle.descriptors.specs.declared.desc.Field.{Field}
use Rattle.descriptors.specs.declared.desc.TaggedVariant.{TaggedVariant}
use Rattle.descriptors.specs.declared.desc.Variant.{Variant}
use Rattle.descriptors.specs.declared.tree.Tree.TheOpen.{Tree-F, Pair-F}

-- a pair with such a value
abbrev pub PairOf : Type 0 → Type 0
PairOf X = Pair-F X (Unit {0})

-- one level, with such trees
abbrev pub TreeOf : Type 0 → Type 0
TreeOf X = Tree-F X (PairOf X)

-- a pair of one level
abbrev pub same_pair : {X : Type 0} → Pair-F X (PairOf X) → PairOf X
same_pair p = record { key = p.key; value = p.value }

-- one level of a descriptor
abbrev pub DescLevel : Type 0
DescLevel = Desc-F Desc Field TaggedVariant Variant

-- a field of such a type
abbrev pub FieldOf : Type 0 → Type 0
FieldOf X = Field-F X (Unit {0}) (Unit {0}) (Unit {0})

-- a tagged variant of such fields
abbrev pub TaggedOf : Type 0 → Type 0
TaggedOf F = TaggedVariant-F (Unit {0}) F (Unit {0}) (Unit {0})

-- a variant whose payload is such
abbrev pub VariantOf : Type 0 → Type 0
VariantOf X = Variant-F X (Unit {0}) (Unit {0}) (Unit {0})
