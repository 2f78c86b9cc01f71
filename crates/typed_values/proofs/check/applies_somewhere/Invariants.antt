use Rattle.std.proofs.Common.{◌≡◌, ℕ, ◌<◌, get_or}
use Rattle.descriptors.specs.declared.table.Definition.{Definition}
use Rattle.typed_values.proofs.Within.{IsClear}
use Rattle.typed_values.proofs.check.applies_somewhere.Given as goal

abbrev pub invariant-loop-definition : goal.invariant-loop-definition
invariant-loop-definition l = (k : ℕ) (e : Definition) → k < l.definition-index → get_or l.table k e ≡ e → IsClear l.table l.error e.desc
