use Rattle.openapi_values.proofs.StepsLeft.{left_items}
use Rattle.openapi_values.proofs.room.of_items.Goals as goal

pub returns-in-Some : goal.returns-in-Some
returns-in-Some c = rw c.in-Some.ensures.cases.0 (left_items c.in-Some.first c.in-Some.later c.args.after)
