use Rattle.tag_config.proofs.Policies.{policy_reaches}
use Rattle.tag_config.proofs.policy.EndpointTagPolicyApiType.reach.Goals as goal

pub returns : goal.returns
returns c = policy_reaches
