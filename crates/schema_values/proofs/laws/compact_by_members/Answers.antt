use Rattle.schema_values.proofs.PrintLemmas.{compact-Object}
use Rattle.schema_values.proofs.laws.compact_by_members.Goals as goal

pub returns : goal.returns
returns c = compact-Object
