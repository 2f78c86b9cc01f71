-- The trees of points.
use Rattle.std.proofs.Common.{◌≡◌, List, [], ◌∷◌, false}
use Rattle.descriptors.specs.declared.tree.Tree.{Tree}
use Rattle.descriptors.specs.declared.tree.Tree.TheVariants as trees
use Rattle.api_types.specs.Structs.{FieldsFitOne}
use Rattle.api_types.specs.Types.{FitsOne}
use Rattle.api_types.proofs.CallerLemmas.{ref_one, struct_at, struct_one}
use Rattle.sample_types.specs.Types.{point_definition, point_desc, point_parts}

pub point_one : (t : Tree) → FitsOne (point_definition ∷ []) point_desc t → (ts : List Tree) × (t ≡ trees.Fields ts)
point_one t one = struct_one point_parts false t (ref_one [] point_definition t one)

pub point_at : (t : Tree) (ts : List Tree) → FitsOne (point_definition ∷ []) point_desc t
    → t ≡ trees.Fields ts → FieldsFitOne point_parts ts
point_at t ts one e = struct_at point_parts false t ts (ref_one [] point_definition t one) e
