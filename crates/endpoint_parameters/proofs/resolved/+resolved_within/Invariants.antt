use Rattle.endpoint_parameters.proofs.resolved.+resolved_within.Given as goal

abbrev pub decreases-resolved_within : goal.decreases-resolved_within
decreases-resolved_within l = l.steps
