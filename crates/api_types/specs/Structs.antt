-- Structs, field by field.
use Rattle.std.specs.Prelude.{◌++◌, ⊤, List, [], ◌∷◌}
use Rattle.std.specs.List.{AllByRecursion}
use Rattle.descriptors.specs.declared.desc.Field.{Field}
use Rattle.descriptors.specs.declared.table.Definition.{Definition}
use Rattle.descriptors.specs.declared.tree.Tree.{Tree}
use Rattle.typed_values.specs.Fits.{field_desc}
use Rattle.api_types.specs.Types.{FitsEach, FitsOne, ReachesExactly}

-- a field, after the definitions that it reaches
abbrev pub Part : Type 0
Part = List Definition × Field

-- the definitions that some fields reach, in order
abbrev pub definitions_in : List Part → List Definition
definitions_in [] = []
definitions_in (p ∷ ps) = p.0 ++ definitions_in ps

-- the fields alone
abbrev pub fields_in : List Part → List Field
fields_in [] = []
fields_in (p ∷ ps) = p.1 ∷ fields_in ps

-- each field reaches the definitions before it
abbrev pub AreParts : List Part → Type 0
AreParts ps = AllByRecursion (λ p. ReachesExactly p.0 p.1.desc) ps

-- one tree for each field, of an option where the field may be left out, which fits in each table that has its definitions
abbrev pub FieldsFitEach : List Part → List Tree → Type 0
FieldsFitEach [] [] = ⊤
FieldsFitEach [] (t ∷ ts) = ⊥
FieldsFitEach (p ∷ ps) [] = ⊥
FieldsFitEach (p ∷ ps) (t ∷ ts) = FitsEach p.0 (field_desc p.1) t × FieldsFitEach ps ts

-- one tree for each field, which fits in one such table
abbrev pub FieldsFitOne : List Part → List Tree → Type 0
FieldsFitOne [] [] = ⊤
FieldsFitOne [] (t ∷ ts) = ⊥
FieldsFitOne (p ∷ ps) [] = ⊥
FieldsFitOne (p ∷ ps) (t ∷ ts) = FitsOne p.0 (field_desc p.1) t × FieldsFitOne ps ts
