use Rattle.std.proofs.Common.{◌≡◌, ℕ, ◌<◌, get_or}
use Rattle.std.specs.Option.{option_copied}
use Rattle.descriptors.specs.declared.table.Definition.{Definition}
use Rattle.typed_values.specs.Guarded.{Names}
use Rattle.typed_values.specs.Search.{all_met, IsMet}
use Rattle.typed_values.proofs.search.next_met.Given as goal

abbrev pub invariant-loop-definition : goal.invariant-loop-definition
invariant-loop-definition l =
    (k : ℕ) (e : Definition) → k < l.definition-index → get_or l.table k e ≡ e → Names e.name l.desc → IsMet (all_met (option_copied l.met)) e.name
