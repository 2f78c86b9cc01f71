-- The trees of configurations.
use Rattle.std.proofs.Common.{◌≡◌, ℕ, List, [], ◌∷◌, codes, false}
use Rattle.descriptors.specs.declared.desc.Desc.TheVariants as descs
use Rattle.descriptors.specs.declared.tree.Tree.{Tree}
use Rattle.descriptors.specs.declared.tree.Tree.TheVariants as trees
use Rattle.api_types.specs.Heads.{required}
use Rattle.api_types.specs.Structs.{FieldsFitOne, Part}
use Rattle.api_types.specs.StructTypes.{field_with}
use Rattle.api_types.specs.Types.{FitsEach, FitsOne}
use Rattle.api_types.proofs.CallerLemmas.{struct_at, struct_each, struct_one}
use Rattle.tag_config.specs.Configurations.{TreesFit, configuration_desc}
use Rattle.tag_config.specs.Details.{details_desc}
use Rattle.tag_config.specs.Policies.{policy_desc}

-- the three fields, none of which leads to definitions
abbrev parts : List ℕ → List ℕ → List Part
parts policy tags =
    ([], field_with (required (codes "allow_other_tags")) descs.Bool)
    ∷ ([], field_with (required policy) policy_desc)
    ∷ ([], field_with (required tags) (descs.Map details_desc))
    ∷ []

trees_fit : (policy tags : List ℕ) (ts : List Tree) → FieldsFitOne (parts policy tags) ts → TreesFit ts
trees_fit policy tags [] fit = fit
trees_fit policy tags (a ∷ []) fit = fit.1
trees_fit policy tags (a ∷ b ∷ []) fit = fit.1.1
trees_fit policy tags (a ∷ b ∷ c ∷ []) fit = (fit.0, fit.1.0, fit.1.1.0)
trees_fit policy tags (a ∷ b ∷ c ∷ d ∷ ts) fit = fit.1.1.1

pub fields_one : (policy tags : List ℕ) (t : Tree) → FitsOne [] (configuration_desc policy tags) t
    → (ts : List Tree) × (t ≡ trees.Fields ts)
fields_one policy tags t one = struct_one (parts policy tags) false t one

pub fields_at : (policy tags : List ℕ) (t : Tree) (ts : List Tree) → FitsOne [] (configuration_desc policy tags) t
    → t ≡ trees.Fields ts → TreesFit ts
fields_at policy tags t ts one e = trees_fit policy tags ts (struct_at (parts policy tags) false t ts one e)

pub configuration_each : (policy tags : List ℕ) (a b c : Tree) → FitsEach [] descs.Bool a → FitsEach [] policy_desc b
    → FitsEach [] (descs.Map details_desc) c
    → FitsEach [] (configuration_desc policy tags) (trees.Fields (a ∷ b ∷ c ∷ []))
configuration_each policy tags a b c first second third =
    struct_each (parts policy tags) false (a ∷ b ∷ c ∷ []) (first, (second, (third, tt)))
