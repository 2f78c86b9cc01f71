use Rattle.tag_config.proofs.Policies.{policy_each}
use Rattle.tag_config.proofs.policy.EndpointTagPolicyApiType.fits.Goals as goal

pub returns : goal.returns
returns c = rw (← c.place.ensures.is) (policy_each c.place.result c.place.ensures.below)
