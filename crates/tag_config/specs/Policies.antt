-- How many tags an endpoint has, by name.
use Rattle.std.specs.Prelude.{ℕ, List, [], ◌∷◌, codes, None}
use Rattle.descriptors.specs.declared.desc.Desc.{Desc}
use Rattle.descriptors.specs.declared.desc.Desc.TheVariants as descs
use Rattle.descriptors.specs.declared.desc.Named.{Named}
use Rattle.descriptors.specs.declared.tree.Tree.{Tree}
use Rattle.descriptors.specs.declared.tree.Tree.TheVariants as trees
use Rattle.tag_config.specs.declared.policy.EndpointTagPolicy.{EndpointTagPolicy}
use Rattle.tag_config.specs.declared.policy.EndpointTagPolicy.TheVariants.{Any, AtLeastOne, ExactlyOne}

-- a name without a description
abbrev pub named : List ℕ → Named
named name = record { name = name; description = None }

-- the names of the policies, which are those of the variants
abbrev pub policy_names : List Named
policy_names = named (codes "Any") ∷ named (codes "AtLeastOne") ∷ named (codes "ExactlyOne") ∷ []

-- one of these names
abbrev pub policy_desc : Desc
policy_desc = descs.Enumeration policy_names

-- the place of a policy among the names
abbrev pub policy_place : EndpointTagPolicy → ℕ
policy_place Any = 0
policy_place AtLeastOne = 1
policy_place ExactlyOne = 2

-- the tree of a policy
abbrev pub policy_tree : EndpointTagPolicy → Tree
policy_tree policy = trees.Variant (policy_place policy) trees.Unit
