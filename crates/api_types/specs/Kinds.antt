-- The types of the fields of a struct.
use Rattle.std.specs.Prelude.{◌++◌, ⊤, Bool, true, false, if◌then◌else◌, List, [], ◌∷◌}
use Rattle.descriptors.specs.declared.desc.Desc.{Desc}
use Rattle.descriptors.specs.declared.desc.Desc.TheVariants as descs
use Rattle.descriptors.specs.declared.table.Definition.{Definition}
use Rattle.descriptors.specs.declared.tree.Tree.{Tree}
use Rattle.api_types.specs.Types.{FitsEach, FitsOne, ReachesExactly}

-- the type of a field: its descriptor, the definitions that this reaches, and whether the field is an option that is left out where it is none
pub record Kind : Type 0 where
  pub definitions : List Definition
  pub desc : Desc
  pub left_out : Bool

-- a field that is always there
abbrev pub kept : List Definition → Desc → Kind
kept definitions desc = record { definitions = definitions; desc = desc; left_out = false }

-- a field that is left out where it is none
abbrev pub skipped : List Definition → Desc → Kind
skipped definitions desc = record { definitions = definitions; desc = desc; left_out = true }

-- the descriptor of a field
abbrev pub kind_desc : Kind → Desc
kind_desc k = k.desc

-- whether a field is left out where it is none
abbrev pub is_left_out : Kind → Bool
is_left_out k = k.left_out

-- the descriptor of the trees of a field
abbrev pub tree_desc : Kind → Desc
tree_desc k = if k.left_out then descs.Option k.desc else k.desc

-- the definitions of some types, in order
abbrev pub definitions_behind : List Kind → List Definition
definitions_behind [] = []
definitions_behind (k ∷ ks) = k.definitions ++ definitions_behind ks

-- each descriptor reaches its definitions, and no other
abbrev pub KindsReach : List Kind → Type 0
KindsReach [] = ⊤
KindsReach (k ∷ ks) = ReachesExactly k.definitions k.desc × KindsReach ks

-- one tree for each type, which fits in each table that has its definitions
abbrev pub KindsFitEach : List Kind → List Tree → Type 0
KindsFitEach [] [] = ⊤
KindsFitEach [] (t ∷ ts) = ⊥
KindsFitEach (k ∷ ks) [] = ⊥
KindsFitEach (k ∷ ks) (t ∷ ts) = FitsEach k.definitions (tree_desc k) t × KindsFitEach ks ts

-- one tree for each type, which fits in one such table
abbrev pub KindsFitOne : List Kind → List Tree → Type 0
KindsFitOne [] [] = ⊤
KindsFitOne [] (t ∷ ts) = ⊥
KindsFitOne (k ∷ ks) [] = ⊥
KindsFitOne (k ∷ ks) (t ∷ ts) = FitsOne k.definitions (tree_desc k) t × KindsFitOne ks ts
