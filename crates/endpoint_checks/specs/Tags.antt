-- What the tags of an endpoint that documents show may be: rules of this library, which a configuration sets.
use Rattle.std.specs.Prelude.{◌≡◌, ◌≢◌, ℕ, false, IsTrue, List, [], length, map, Contains}
use Rattle.api_declarations.specs.Values.{DeclarationValue}
use Rattle.tag_config.specs.Configurations.{Configuration}
use Rattle.tag_config.specs.declared.policy.EndpointTagPolicy.TheVariants.{AtLeastOne, ExactlyOne}
use Rattle.endpoint_parameters.specs.Firsts.{IsFirstOf}

-- documents show the endpoint, at least one tag is asked for, and it has none
pub record LacksTag (config : Configuration) (e : DeclarationValue) : Type 0 where
  pub visible : IsTrue e.visible
  pub policy : config.policy ≡ AtLeastOne
  pub no_tag : e.tags ≡ []

-- documents show the endpoint, exactly one tag is asked for, and it has none or several
pub record LacksOnlyTag (config : Configuration) (e : DeclarationValue) : Type 0 where
  pub visible : IsTrue e.visible
  pub policy : config.policy ≡ ExactlyOne
  pub not_one : length e.tags ≢ 1

-- the configured tags, by name
abbrev pub configured_names : Configuration → List (List ℕ)
configured_names config = map (λ tag. tag.0) config.tags

-- a tag is not configured
abbrev pub IsUnknownTag : Configuration → List ℕ → Type 0
IsUnknownTag config tag = ¬ Contains (configured_names config) tag

-- documents show the endpoint, tags must be configured, and this is its first that is not
pub record HasUnknownTag (config : Configuration) (e : DeclarationValue) (tag : List ℕ) : Type 0 where
  pub visible : IsTrue e.visible
  pub configured_alone : config.allow_other_tags ≡ false
  pub first : IsFirstOf (IsUnknownTag config) e.tags tag
