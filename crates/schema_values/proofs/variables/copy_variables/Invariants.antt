use Rattle.std.proofs.Common.{◌≡◌, ◌++◌}
use Rattle.schema_values.proofs.variables.copy_variables.Given as goal

abbrev pub invariant-loop-name : goal.invariant-loop-name
invariant-loop-name l = l.variables.entries ≡ l.copies.entries ++ l.name-iterator
