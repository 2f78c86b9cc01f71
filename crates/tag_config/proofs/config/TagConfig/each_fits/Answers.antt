use Rattle.std.proofs.Common.{[], subst}
use Rattle.api_types.specs.Types.{FitsEach}
use Rattle.tag_config.proofs.Trees.{configuration_each}
use Rattle.tag_config.specs.Configurations.{Configuration, configuration_desc, configuration_tree, policy_field, tags_field}
use Rattle.tag_config.proofs.config.TagConfig.each_fits.Goals as goal

pub returns : goal.returns
returns c =
    subst (λ (config : Configuration). FitsEach [] (configuration_desc policy_field.new tags_field.new) (configuration_tree config)) c.self.view_is
    (configuration_each policy_field.new tags_field.new _ _ _ c.fits.ensures c.fits-2.ensures c.fits-3.ensures)
