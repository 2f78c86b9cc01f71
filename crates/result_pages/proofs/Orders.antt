-- The trees of orders.
use Rattle.std.proofs.Common.{◌≡◌, ℕ, ◌<◌, [], ◌∷◌}
use Rattle.descriptors.specs.declared.tree.Tree.{Tree}
use Rattle.descriptors.specs.declared.tree.Tree.TheVariants as trees
use Rattle.api_types.specs.Types.{FitsEach, FitsOne, ReachesExactly}
use Rattle.api_types.proofs.CallerLemmas.{names_reach, name_each, name_one, name_at, ref_reaches, ref_each, ref_one}
use Rattle.result_pages.specs.Orders.{order_names, order_desc, order_definition}

pub order_reaches : ReachesExactly (order_definition ∷ []) order_desc
order_reaches = ref_reaches [] order_definition (names_reach order_names)

pub order_each : (i : ℕ) → i < 2 → FitsEach (order_definition ∷ []) order_desc (trees.Variant i trees.Unit)
order_each i less = ref_each [] order_definition (trees.Variant i trees.Unit) (name_each order_names i less)

pub order_one : (t : Tree) → FitsOne (order_definition ∷ []) order_desc t → (i : ℕ) × (s : Tree) × (t ≡ trees.Variant i s)
order_one t one = name_one order_names t (ref_one [] order_definition t one)

pub order_at : (t : Tree) (i : ℕ) (s : Tree) → FitsOne (order_definition ∷ []) order_desc t → t ≡ trees.Variant i s → (i < 2) × (t ≡ trees.Variant i trees.Unit)
order_at t i s one e = name_at order_names t i s (ref_one [] order_definition t one) e
