use Rattle.std.proofs.Common.{◌≡◌, ℕ, ◌<◌, get_or}
use Rattle.descriptors.specs.declared.table.Definition.{Definition}
use Rattle.typed_values.specs.Guarded.{LiesOnCycle}
use Rattle.typed_values.proofs.check.first_on_cycle.Given as goal

abbrev pub invariant-loop-definition : goal.invariant-loop-definition
invariant-loop-definition l = (k : ℕ) (e : Definition) → k < l.definition-index → get_or l.table k e ≡ e → LiesOnCycle l.table e → ⊥
