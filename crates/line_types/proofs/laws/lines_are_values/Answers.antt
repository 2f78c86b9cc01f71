use Rattle.line_types.proofs.Values.{asks_by_value}
use Rattle.line_types.proofs.laws.lines_are_values.Goals as goal

pub returns : goal.returns
returns c = asks_by_value
