use Rattle.schema_values.proofs.EqualValues.{json_eq-tells}
use Rattle.schema_values.proofs.SameLemmas.{same_told}
use Rattle.schema_values.proofs.json_value.Json.equals.Goals as goal

pub returns-clause-equal : goal.returns-clause-equal
returns-clause-equal c = rw c.eq.ensures (json_eq-tells c.args.self.now c.args.other.now)

pub returns-clause-same : goal.returns-clause-same
returns-clause-same c = same_told c.args.self.now c.args.other.now c.eq.result (rw c.eq.ensures (json_eq-tells c.args.self.now c.args.other.now))
