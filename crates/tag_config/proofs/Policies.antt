-- The trees of policies.
use Rattle.std.proofs.Common.{◌≡◌, ℕ, ◌<◌, []}
use Rattle.descriptors.specs.declared.tree.Tree.{Tree}
use Rattle.descriptors.specs.declared.tree.Tree.TheVariants as trees
use Rattle.api_types.specs.Types.{FitsEach, FitsOne, ReachesExactly}
use Rattle.api_types.proofs.CallerLemmas.{names_reach, name_each, name_one, name_at}
use Rattle.tag_config.specs.Policies.{policy_desc, policy_names}

pub policy_reaches : ReachesExactly [] policy_desc
policy_reaches = names_reach policy_names

pub policy_each : (i : ℕ) → i < 3 → FitsEach [] policy_desc (trees.Variant i trees.Unit)
policy_each i less = name_each policy_names i less

pub policy_one : (t : Tree) → FitsOne [] policy_desc t → (i : ℕ) × (s : Tree) × (t ≡ trees.Variant i s)
policy_one t one = name_one policy_names t one

pub policy_at : (t : Tree) (i : ℕ) (s : Tree) → FitsOne [] policy_desc t → t ≡ trees.Variant i s
    → (i < 3) × (t ≡ trees.Variant i trees.Unit)
policy_at t i s one e = name_at policy_names t i s one e
