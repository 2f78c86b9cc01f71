-- Tests of a value that may be there.
use Rattle.std.specs.Prelude.{Bool, true, false, Option, Some, None}

-- `o.is_some_and(p)`
abbrev pub is_some_and : {X : Type 0} → Option X → (X → Bool) → Bool
is_some_and None p = false
is_some_and (Some x) p = p x

-- `o.is_none_or(p)`
abbrev pub is_none_or : {X : Type 0} → Option X → (X → Bool) → Bool
is_none_or None p = true
is_none_or (Some x) p = p x
