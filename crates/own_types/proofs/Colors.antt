-- The trees of colors.
use Rattle.std.proofs.Common.{◌≡◌, ℕ, ◌<◌, [], ◌∷◌}
use Rattle.descriptors.specs.declared.tree.Tree.{Tree}
use Rattle.descriptors.specs.declared.tree.Tree.TheVariants as trees
use Rattle.api_types.specs.Types.{FitsEach, FitsOne, ReachesExactly}
use Rattle.api_types.proofs.CallerLemmas.{names_reach, name_each, name_one, name_at, ref_reaches, ref_each, ref_one}
use Rattle.own_types.specs.Colors.{color_names, color_desc, color_definition}

pub color_reaches : ReachesExactly (color_definition ∷ []) color_desc
color_reaches = ref_reaches [] color_definition (names_reach color_names)

pub color_each : (i : ℕ) → i < 3 → FitsEach (color_definition ∷ []) color_desc (trees.Variant i trees.Unit)
color_each i less = ref_each [] color_definition (trees.Variant i trees.Unit) (name_each color_names i less)

pub color_one : (t : Tree) → FitsOne (color_definition ∷ []) color_desc t → (i : ℕ) × (s : Tree) × (t ≡ trees.Variant i s)
color_one t one = name_one color_names t (ref_one [] color_definition t one)

pub color_at : (t : Tree) (i : ℕ) (s : Tree) → FitsOne (color_definition ∷ []) color_desc t → t ≡ trees.Variant i s → (i < 3) × (t ≡ trees.Variant i trees.Unit)
color_at t i s one e = name_at color_names t i s (ref_one [] color_definition t one) e
