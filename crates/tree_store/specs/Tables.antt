-- A store: tables by name, each with trees by key in ascending order of the keys' bytes in UTF-8.
use Rattle.std.specs.Prelude.{◌≡◌, ℕ, List, [], ◌∷◌, Option, Some, None, if◌then◌else◌, bytes_eq}
use Rattle.std.specs.List.{filter, position}
use Rattle.std.specs.List.Sorted.{IsStrictlySortedBy}
use Rattle.std.specs.Map.{keys_of}
use Rattle.std.specs.Ordering.{is_lt, nat_cmp, match_ordering}
use Rattle.std.specs.Cmp.Lexicographic.{slice_cmp}
use Rattle.std.specs.Str.{chars}
use Rattle.descriptors.specs.declared.tree.Tree.{Tree}
use Rattle.descriptors.specs.declared.tree.Pair.{Pair}

-- the pairs of a key's bytes and a tree
abbrev pub Pairs : Type 0
Pairs = List (List ℕ × Tree)

-- the pairs of each table, by the bytes of its name
abbrev pub Tables : Type 0
Tables = List (List ℕ × Pairs)

-- each key stands before those after it, by its bytes, so no two are the same
abbrev pub Ascend : Pairs → Type 0
Ascend pairs = IsStrictlySortedBy (slice_cmp nat_cmp) (keys_of pairs)

-- no table has the name
abbrev pub IsAbsent : List ℕ → Tables → Type 0
IsAbsent name tables = position (λ t. bytes_eq name t.0) tables ≡ None

-- a table that is absent is an empty one
abbrev pub pairs_of : List ℕ → Tables → Pairs
pairs_of name [] = []
pairs_of name (t ∷ ts) = if bytes_eq name t.0 then t.1 else pairs_of name ts

-- the tree of a key, among the pairs of a table
abbrev pub tree_at : List ℕ → Pairs → Option Tree
tree_at key [] = None
tree_at key (p ∷ ps) = if bytes_eq key p.0 then Some p.1 else tree_at key ps

-- the tree of a key of a table
abbrev pub stored : List ℕ → List ℕ → Tables → Option Tree
stored table key tables = tree_at key (pairs_of table tables)

-- the pairs with this tree at this key
abbrev pub pairs_with : List ℕ → Tree → Pairs → Pairs
pairs_with key tree [] = (key, tree) ∷ []
pairs_with key tree (p ∷ ps) = match_ordering (slice_cmp nat_cmp key p.0) ((key, tree) ∷ p ∷ ps) ((p.0, tree) ∷ ps) (p ∷ pairs_with key tree ps)

-- the pairs but that of this key
abbrev pub pairs_without : List ℕ → Pairs → Pairs
pairs_without key [] = []
pairs_without key (p ∷ ps) = if bytes_eq key p.0 then ps else p ∷ pairs_without key ps

-- the pairs whose key is greater
abbrev pub pairs_above : List ℕ → Pairs → Pairs
pairs_above key pairs = filter (λ p. is_lt (slice_cmp nat_cmp key p.0)) pairs

-- a pair as it is handed out: the characters of its key, and its tree
abbrev pub pair_of : List ℕ × Tree → Pair
pair_of p = record { key = chars p.0; value = p.1 }

-- the tables with the pairs of one changed, which is made where it is absent
abbrev pub changed : List ℕ → (Pairs → Pairs) → Tables → Tables
changed name change [] = (name, change []) ∷ []
changed name change (t ∷ ts) = if bytes_eq name t.0 then (t.0, change t.1) ∷ ts else t ∷ changed name change ts
