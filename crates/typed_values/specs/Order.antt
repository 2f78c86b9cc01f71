-- The first of what has names.
use Rattle.std.specs.Prelude.{ℕ, List, Option, bytes_eq}
use Rattle.std.specs.List.{find}

-- the first thing of a name
abbrev pub first_by : {X : Type 0} → (X → List ℕ) → List X → List ℕ → Option X
first_by name_of xs name = find (λ x. bytes_eq (name_of x) name) xs
