use Rattle.endpoint_parameters.proofs.resolved.+is_scalar_within.Given as goal

abbrev pub decreases-is_scalar_within : goal.decreases-is_scalar_within
decreases-is_scalar_within l = l.steps
