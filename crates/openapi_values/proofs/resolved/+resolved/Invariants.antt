use Rattle.std.proofs.Common.{◌+◌, ◌*◌}
use Rattle.openapi_values.specs.Steps.{left}
use Rattle.openapi_values.proofs.resolved.+resolved.Given as goal

abbrev pub decreases-within : goal.decreases-within
decreases-within l = 4 * left l.steps.now

abbrev pub decreases-step : goal.decreases-step
decreases-step l = 4 * left l.next.now + 3

abbrev pub decreases-by_reference : goal.decreases-by_reference
decreases-by_reference l = 4 * left l.next.now + 2

abbrev pub decreases-at_definition : goal.decreases-at_definition
decreases-at_definition l = 4 * left l.next.now + 1

abbrev pub decreases-at_only : goal.decreases-at_only
decreases-at_only l = 4 * left l.next.now + 1
