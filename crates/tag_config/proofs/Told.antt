-- What is told of JSON in which no field stands by both of its names.
use Rattle.std.proofs.Common.{◌≡◌, ℕ, false, List, [], refl, sym, ◌∙◌}
use Rattle.std.specs.Prelude.{IfErr, IfOk, Result, Ok, Err}
use Rattle.schema_values.specs.declared.json_value.Json.{Json}
use Rattle.typed_values.specs.Answer.{IfFault, IsFaultOf}
use Rattle.typed_values.specs.Denotes.{JsonDenotes, told}
use Rattle.typed_values.specs.declared.fault.DecodeError.{DecodeError}
use Rattle.typed_values.specs.declared.fault.DecodeError.TheVariants.{Fault, OutOfMemory}
use Rattle.tag_config.specs.Configurations.{Configuration, DenotesConfiguration, configuration_desc, configuration_told}
use Rattle.tag_config.specs.Configurations.{configuration_tree, is_doubled, name_by, policy_field, tags_field}

module _ (json : Json) (policy tags : List ℕ) (policy_is : policy ≡ name_by policy_field json)
    (tags_are : tags ≡ name_by tags_field json)
    (one_policy : is_doubled policy_field json ≡ false) (one_tags : is_doubled tags_field json ≡ false) where
  pub told_so : configuration_told json ≡ told [] (configuration_desc policy tags) json (configuration_desc policy tags)
  told_so = rw (one_policy, one_tags, policy_is, tags_are) refl

  pub denoted : (r : Result Configuration DecodeError)
      → IfOk r (λ config. JsonDenotes [] (configuration_desc policy tags) json (configuration_tree config))
      → IfOk r (DenotesConfiguration json)
  denoted (Ok config) h = told_so ∙ h
  denoted (Err e) h = tt

  -- the first fault is told, by the names that stand
  abbrev IsTold : DecodeError → Type 0
  IsTold e = IfFault e (IsFaultOf (told [] (configuration_desc policy tags) json (configuration_desc policy tags)))

  fault_same : (e : DecodeError) → IsTold e → IfFault e (IsFaultOf (configuration_told json))
  fault_same (Fault fault) h = (h.0, told_so ∙ h.1, h.2)
  fault_same OutOfMemory h = h

  pub fault_told : (r : Result Configuration DecodeError) → IfErr r IsTold
      → IfErr r (λ e. IfFault e (IsFaultOf (configuration_told json)))
  fault_told (Ok config) h = tt
  fault_told (Err e) h = fault_same e h

  none_at : (e : DecodeError) → IsTold e
      → IfFault e (λ _. (config : Configuration) → ¬ DenotesConfiguration json config)
  none_at (Fault fault) h = λ config d. let q = sym (told_so ∙ h.1) ∙ d in cc q
  none_at OutOfMemory h = h

  pub none_denoted : (r : Result Configuration DecodeError) → IfErr r IsTold
      → IfErr r (λ e. IfFault e (λ _. (config : Configuration) → ¬ DenotesConfiguration json config))
  none_denoted (Ok config) h = tt
  none_denoted (Err e) h = none_at e h
