-- What stands behind a prefix.
use Rattle.std.specs.Prelude.{ℕ, List, [], ◌∷◌, Option, Some, None, if◌then◌else◌, nat_eq}

-- what follows a prefix
abbrev pub after : List ℕ → List ℕ → Option (List ℕ)
after [] text = Some text
after (c ∷ prefix) [] = None
after (c ∷ prefix) (d ∷ text) = if nat_eq c d then after prefix text else None
