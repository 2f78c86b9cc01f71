use Rattle.schema_values.proofs.EqualValues.{member_eq-tells}
use Rattle.schema_values.proofs.json_value.Member.equals.Goals as goal

pub returns : goal.returns
returns c = rw c.eq.ensures (member_eq-tells c.args.self.now c.args.other.now)
