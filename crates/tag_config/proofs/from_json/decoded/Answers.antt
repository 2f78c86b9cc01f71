use Rattle.std.proofs.Common.{[]}
use Rattle.tag_config.proofs.Passing.{empty_table}
use Rattle.tag_config.proofs.from_json.decoded.Goals as goal

pub configuration_of-requires : goal.configuration_of-requires
configuration_of-requires c =
    (c.args.policy.now, c.args.tags.now, ([], empty_table _ c.requires.passes, c.in_ok-tree.ensures.fits))

pub returns-clause-denotes : goal.returns-clause-denotes
returns-clause-denotes c = rw c.in_ok-configuration_of.ensures c.in_ok-tree.ensures.denotes
