use Rattle.tag_config.proofs.Policies.{policy_one, policy_at}
use Rattle.tag_config.proofs.policy.place_in.Goals as goal

pub unreachable-requires : goal.unreachable-requires
unreachable-requires c = let (i, s, is) = policy_one c.args.tree.now c.requires in c.in_default.not-Variant i s is

pub returns-clause-is : goal.returns-clause-is
returns-clause-is c = (policy_at c.args.tree.now c.in-Variant.place c.in-Variant.field-1 c.requires c.in-Variant.is).1

pub returns-clause-below : goal.returns-clause-below
returns-clause-below c = (policy_at c.args.tree.now c.in-Variant.place c.in-Variant.field-1 c.requires c.in-Variant.is).0
