-- Names in order.
use Rattle.std.specs.Prelude.{ℕ, Bool, not, List}
use Rattle.std.specs.Cmp.Lexicographic.{slice_cmp}
use Rattle.std.specs.Ordering.{nat_cmp, is_lt}

-- the name of a thing is before a name
abbrev pub is_before : {X : Type 0} → (X → List ℕ) → List ℕ → X → Bool
is_before key name x = is_lt (slice_cmp nat_cmp (key x) name)

-- the name of a thing is not behind a name
abbrev pub is_not_after : {X : Type 0} → (X → List ℕ) → List ℕ → X → Bool
is_not_after key name x = not (is_lt (slice_cmp nat_cmp name (key x)))
