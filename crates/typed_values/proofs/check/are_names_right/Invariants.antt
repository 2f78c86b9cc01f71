use Rattle.std.proofs.Common.{◌≡◌, ℕ, ◌<◌, get_or}
use Rattle.descriptors.specs.declared.table.Definition.{Definition}
use Rattle.typed_values.specs.Checks.{IsName}
use Rattle.typed_values.proofs.check.are_names_right.Given as goal

abbrev pub invariant-loop-definition : goal.invariant-loop-definition
invariant-loop-definition l = (k : ℕ) (e : Definition) → k < l.definition-index → get_or l.table k e ≡ e → IsName e.name
