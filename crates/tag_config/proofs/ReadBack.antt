-- What a configuration is written as has each field by its new name alone, so that it denotes the configuration.
use Rattle.std.proofs.Common.{◌≡◌, ℕ, false, List, [], ◌∷◌, None, ap, codes, map, refl, ◌∙◌}
use Rattle.std.proofs.Math.Bool.{and-false}
use Rattle.std.specs.Prelude.{IfOk, Result, Ok, Err}
use Rattle.std.specs.declared.alloc.AllocError.{AllocError}
use Rattle.schema_values.specs.Get.{first_named}
use Rattle.schema_values.specs.Member.{member}
use Rattle.schema_values.specs.declared.json_value.Json.{Json, Object}
use Rattle.schema_values.specs.declared.json_value.Json.TheVariants.{outs-Object}
use Rattle.schema_values.specs.declared.json_value.Member.{Member}
use Rattle.descriptors.specs.declared.desc.Desc.{Desc}
use Rattle.descriptors.specs.declared.desc.Desc.TheVariants as descs
use Rattle.descriptors.specs.declared.desc.Field.{Field}
use Rattle.descriptors.specs.declared.tree.Tree.{Tree}
use Rattle.descriptors.specs.declared.tree.Tree.TheVariants as trees
use Rattle.typed_values.specs.Denotes.{JsonDenotes}
use Rattle.typed_values.specs.Encoding.{parts_written, written_under}
use Rattle.typed_values.proofs.CallerLemmas.{is_none_tree, struct_written}
use Rattle.api_types.specs.Heads.{required}
use Rattle.api_types.specs.Maps.{pair_of}
use Rattle.api_types.specs.StructTypes.{field_with}
use Rattle.tag_config.specs.Configurations.{Configuration, DenotesConfiguration, configuration_desc, configuration_json}
use Rattle.tag_config.specs.Configurations.{configuration_tree, policy_field, stands, tags_field}
use Rattle.tag_config.specs.Details.{details_desc, details_tree}
use Rattle.tag_config.specs.Policies.{policy_desc, policy_tree}
use Rattle.tag_config.proofs.Told.{told_so}

abbrev new_desc : Desc
new_desc = configuration_desc policy_field.new tags_field.new

abbrev new_fields : List Field
new_fields =
    field_with (required (codes "allow_other_tags")) descs.Bool
    ∷ field_with (required policy_field.new) policy_desc
    ∷ field_with (required tags_field.new) (descs.Map details_desc)
    ∷ []

-- a name that no member of an object has does not stand
absent : (name : List ℕ) (members : List Member) (json : Json) → json ≡ Object members
    → first_named name members ≡ None → stands name json ≡ false
absent name members json is none = rw (is, outs-Object members, none) refl

module _ (config : Configuration) where
  abbrev parts : List Tree
  parts =
      trees.Bool config.allow_other_tags
      ∷ policy_tree config.policy
      ∷ trees.Map (map (pair_of details_tree) config.tags)
      ∷ []

  abbrev written : List Member
  written =
      member (codes "allow_other_tags") (written_under [] new_desc (trees.Bool config.allow_other_tags) descs.Bool)
      ∷ member policy_field.new (written_under [] new_desc (policy_tree config.policy) policy_desc)
      ∷ member tags_field.new
      (written_under [] new_desc (trees.Map (map (pair_of details_tree) config.tags)) (descs.Map details_desc))
      ∷ []

  written_is : configuration_json config ≡ Object written
  written_is =
      struct_written [] new_desc (configuration_tree config) new_fields false
      ∙ ap (parts_written is_none_tree (written_under [] new_desc) new_fields) (trees.outs-Fields parts)

  no_old_policy : stands policy_field.old (configuration_json config) ≡ false
  no_old_policy = absent policy_field.old written (configuration_json config) written_is refl

  no_old_tags : stands tags_field.old (configuration_json config) ≡ false
  no_old_tags = absent tags_field.old written (configuration_json config) written_is refl

  reads_back : JsonDenotes [] new_desc (configuration_json config) (configuration_tree config)
      → DenotesConfiguration (configuration_json config) config
  reads_back denotes =
      told_so (configuration_json config) policy_field.new tags_field.new (rw no_old_policy refl) (rw no_old_tags refl)
      (rw no_old_policy (and-false (stands policy_field.new (configuration_json config))))
      (rw no_old_tags (and-false (stands tags_field.new (configuration_json config))))
      ∙ denotes

  pub written_reads_back : (r : Result Json AllocError) → IfOk r (λ json. json ≡ configuration_json config)
      → IfOk r (λ json. JsonDenotes [] new_desc json (configuration_tree config))
      → IfOk r (λ json. DenotesConfiguration json config)
  written_reads_back (Ok json) is denotes = rw is (reads_back (rw is at denotes))
  written_reads_back (Err e) is denotes = tt
