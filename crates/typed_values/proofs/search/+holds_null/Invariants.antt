use Rattle.std.proofs.Common.{◌≡◌, ℕ, ◌<◌, get_or}
use Rattle.descriptors.specs.declared.desc.Desc.{Desc}
use Rattle.typed_values.specs.Search.{HoldsNull}
use Rattle.typed_values.proofs.search.+holds_null.Given as goal

abbrev pub invariant-some_holds_null-loop-alternative : goal.invariant-some_holds_null-loop-alternative
invariant-some_holds_null-loop-alternative l =
    (k : ℕ) (x : Desc) → k < l.alternative-index → get_or l.alternatives k x ≡ x → HoldsNull x → ⊥
