-- Configurations of tags, and the JSON that denotes them.
use Rattle.std.specs.Prelude.{◌≡◌, ◌&&◌, ℕ, Bool, false, List, [], ◌∷◌, Ok, codes, if◌then◌else◌, is_some, map}
use Rattle.schema_values.specs.Get.{get_of}
use Rattle.schema_values.specs.declared.json_value.Json.{Json}
use Rattle.descriptors.specs.declared.desc.Desc.{Desc}
use Rattle.descriptors.specs.declared.desc.Desc.TheVariants as descs
use Rattle.descriptors.specs.declared.tree.Tree.{Tree}
use Rattle.descriptors.specs.declared.tree.Tree.TheVariants as trees
use Rattle.typed_values.specs.Denotes.{Told, below, refused, told}
use Rattle.typed_values.specs.Encoding.{json_of_tree}
use Rattle.typed_values.specs.declared.fault.FaultKind.TheVariants.{Doubled}
use Rattle.typed_values.specs.declared.fault.Place.TheVariants.{Name}
use Rattle.api_types.specs.Heads.{required}
use Rattle.api_types.specs.Maps.{pair_of}
use Rattle.api_types.specs.StructTypes.{field_with}
use Rattle.api_types.specs.Types.{FitsOne}
use Rattle.tag_config.specs.Details.{details_desc, details_tree}
use Rattle.tag_config.specs.Policies.{policy_desc, policy_tree}
use Rattle.tag_config.specs.declared.details.TagDetails.{TagDetails}
use Rattle.tag_config.specs.declared.policy.EndpointTagPolicy.{EndpointTagPolicy}

-- whether endpoints may have other tags than those given, how many they have, and the tags with their details, in the
-- order of their names
pub record Configuration : Type 0 where
  pub allow_other_tags : Bool
  pub policy : EndpointTagPolicy
  pub tags : List (List ℕ × TagDetails)

-- A field has one of two names in JSON: a new one, and an old one.
pub record Names : Type 0 where
  pub new : List ℕ
  pub old : List ℕ

-- the names of the policy
abbrev pub policy_field : Names
policy_field = record { new = codes "policy"; old = codes "endpoint_tag_policy" }

-- the names of the tags
abbrev pub tags_field : Names
tags_field = record { new = codes "tags"; old = codes "tag_definitions" }

-- whether a member of a name stands
abbrev pub stands : List ℕ → Json → Bool
stands name json = is_some (get_of name json)

-- the name by which a field stands: the old one where that stands, else the new one
abbrev pub name_by : Names → Json → List ℕ
name_by names json = if stands names.old json then names.old else names.new

-- whether a field stands by both names
abbrev pub is_doubled : Names → Json → Bool
is_doubled names json = stands names.new json && stands names.old json

-- an object of the three fields, where two are named so; other names have no effect
abbrev pub configuration_desc : List ℕ → List ℕ → Desc
configuration_desc policy tags = descs.Struct
    (field_with (required (codes "allow_other_tags")) descs.Bool
    ∷ field_with (required policy) policy_desc
    ∷ field_with (required tags) (descs.Map details_desc)
    ∷ []) false

-- the tree of a configuration
abbrev pub configuration_tree : Configuration → Tree
configuration_tree config = trees.Fields
    (trees.Bool config.allow_other_tags
    ∷ policy_tree config.policy
    ∷ trees.Map (map (pair_of details_tree) config.tags)
    ∷ [])

-- the fault of a field that stands by both names: it stands at the new one
abbrev pub doubled_told : Names → Told
doubled_told names = below (Name names.new) (refused (Doubled names.new))

-- A field that stands by both names is a fault, which is told first. Else the names that stand count.
abbrev pub configuration_told : Json → Told
configuration_told json =
    if is_doubled policy_field json then doubled_told policy_field
    else if is_doubled tags_field json then doubled_told tags_field
    else let desc = configuration_desc (name_by policy_field json) (name_by tags_field json) in told [] desc json desc

-- JSON denotes a configuration
abbrev pub DenotesConfiguration : Json → Configuration → Type 0
DenotesConfiguration json config = configuration_told json ≡ Ok (configuration_tree config)

-- a configuration as JSON, under the new names
abbrev pub configuration_json : Configuration → Json
configuration_json config =
    json_of_tree [] (configuration_desc policy_field.new tags_field.new) (configuration_tree config)

-- the trees of the three fields fit
abbrev pub TreesFit : List Tree → Type 0
TreesFit (allow ∷ policy ∷ tags ∷ []) =
    FitsOne [] descs.Bool allow × FitsOne [] policy_desc policy × FitsOne [] (descs.Map details_desc) tags
TreesFit _ = ⊥

-- a tree fits an object of the three fields, whatever two of them are named
abbrev pub IsConfigurationTree : Tree → Type 0
IsConfigurationTree tree = (policy tags : List ℕ) × FitsOne [] (configuration_desc policy tags) tree
