use Rattle.tag_config.proofs.OneConfiguration.{one_denoted}
use Rattle.tag_config.proofs.laws.one_configuration.Goals as goal

pub returns : goal.returns
returns c = one_denoted
