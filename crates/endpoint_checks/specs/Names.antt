-- Names in order, each once, and how a message lists them.
use Rattle.std.specs.Prelude.{ℕ, Bool, not, List, [], ◌∷◌, ◌++◌, fold, filter, bytes_eq, codes}
use Rattle.std.specs.declared.cmp.Ordering.{Ordering}
use Rattle.std.specs.BTreeSet.{insert_key}
use Rattle.std.specs.Cmp.Lexicographic.{slice_cmp}
use Rattle.std.specs.List.{list_any}
use Rattle.std.specs.Ordering.{nat_cmp}

-- the order of names, by their characters, which is the order of their bytes in UTF-8
abbrev pub name_order : List ℕ → List ℕ → Ordering
name_order = slice_cmp nat_cmp

-- whether a name is one of some names
abbrev pub is_among : List ℕ → List (List ℕ) → Bool
is_among name names = list_any (bytes_eq name) names

-- names in order, each once
abbrev pub in_order : List (List ℕ) → List (List ℕ)
in_order = fold (insert_key name_order) []

-- the names that are not among others, in order, each once
abbrev pub missing_in : List (List ℕ) → List (List ℕ) → List (List ℕ)
missing_in others names = in_order (filter (λ name. not (is_among name others)) names)

-- a comma before each name
abbrev pub after_commas : List (List ℕ) → List ℕ
after_commas [] = []
after_commas (name ∷ names) = codes "," ++ name ++ after_commas names

-- names with commas between them
abbrev pub with_commas : List (List ℕ) → List ℕ
with_commas [] = []
with_commas (name ∷ names) = name ++ after_commas names

-- names in brackets behind a text, or nothing where there are none
abbrev pub listing : List ℕ → List (List ℕ) → List ℕ
listing text [] = []
listing text (name ∷ names) = text ++ codes "(" ++ with_commas (name ∷ names) ++ codes ")"

-- what joins two listings that both have names
abbrev pub between : List (List ℕ) → List (List ℕ) → List ℕ
between (name ∷ names) (other ∷ others) = codes " and "
between _ _ = []
