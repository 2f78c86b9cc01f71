use Rattle.std.proofs.Common.{◌≡◌, ℕ, ◌<◌, get_or}
use Rattle.descriptors.specs.declared.desc.Desc.{Desc}
use Rattle.typed_values.specs.Guarded.{Names}
use Rattle.typed_values.proofs.search.+names.Given as goal

abbrev pub invariant-some_names-loop-alternative : goal.invariant-some_names-loop-alternative
invariant-some_names-loop-alternative l =
    (k : ℕ) (x : Desc) → k < l.alternative-index → get_or l.alternatives k x ≡ x → Names l.name x → ⊥
