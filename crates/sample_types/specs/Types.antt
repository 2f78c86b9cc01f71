-- The types of the sample, but for folders: their descriptors, and the trees of points.
use Rattle.std.specs.Prelude.{◌≡◌, ℕ, false, List, [], ◌∷◌, None, codes}
use Rattle.descriptors.specs.declared.desc.Desc.{Desc}
use Rattle.descriptors.specs.declared.desc.Desc.TheVariants as descs
use Rattle.descriptors.specs.declared.desc.Field.{Field}
use Rattle.descriptors.specs.declared.desc.IntKind.{IntKind}
use Rattle.descriptors.specs.declared.desc.IntKind.TheVariants as kinds
use Rattle.descriptors.specs.declared.table.Definition.{Definition}
use Rattle.descriptors.specs.declared.tree.Tree.{Tree}
use Rattle.descriptors.specs.declared.tree.Tree.TheVariants as trees
use Rattle.descriptors.specs.Definitions.{definition_with}
use Rattle.http_status.specs.ErrorBodies.{any_text}
use Rattle.api_types.specs.Heads.{nullable, required}
use Rattle.api_types.specs.Structs.{Part, fields_in}
use Rattle.api_types.specs.StructTypes.{field_with}
use Rattle.sample_types.specs.Labels.{label_desc}

-- whole numbers of a kind
abbrev pub number_of : IntKind → Desc
number_of kind = descs.Int kind None None

-- ---- points

-- the fields of a point: a label, a number and a truth value, none of which reaches a definition
abbrev pub label_field : Field
label_field = field_with (required (codes "label")) label_desc

abbrev pub n_field : Field
n_field = field_with (required (codes "n")) (number_of kinds.I32)

abbrev pub on_field : Field
on_field = field_with (required (codes "on")) descs.Bool

abbrev pub point_parts : List Part
point_parts = ([], label_field) ∷ ([], n_field) ∷ ([], on_field) ∷ []

abbrev pub point_definition : Definition
point_definition = definition_with (codes "Point") None (descs.Struct (fields_in point_parts) false)

abbrev pub point_desc : Desc
point_desc = descs.Ref (codes "Point")

-- the tree of a point
abbrev pub point_tree : List ℕ → Tree → Tree → Tree
point_tree label n on = trees.Fields (trees.Text label ∷ n ∷ on ∷ [])

-- a tree is of a point of this label
pub record IsPointOf (label : List ℕ) (tree : Tree) : Type 0 where
  pub n : Tree
  pub on : Tree
  pub is : tree ≡ point_tree label n on

-- the label in a path
abbrev pub label_path_desc : Desc
label_path_desc = descs.Struct (field_with (required (codes "label")) any_text ∷ []) false

-- ---- probes

-- what a probe is asked with
abbrev pub probe_query_desc : Desc
probe_query_desc = descs.Struct
    (field_with (nullable (codes "n")) (descs.Option (number_of kinds.U32))
    ∷ field_with (nullable (codes "i")) (descs.Option (number_of kinds.I32)) ∷ []) false

abbrev pub probe_header_desc : Desc
probe_header_desc =
    descs.Struct (field_with (nullable (codes "x-a")) (descs.Option (number_of kinds.U8)) ∷ []) false

-- what it tells
abbrev pub probe_desc : Desc
probe_desc = descs.Struct
    (field_with (required (codes "label")) any_text
    ∷ field_with (nullable (codes "n")) (descs.Option (number_of kinds.U32))
    ∷ field_with (nullable (codes "i")) (descs.Option (number_of kinds.I32))
    ∷ field_with (nullable (codes "a")) (descs.Option (number_of kinds.U8)) ∷ []) false
