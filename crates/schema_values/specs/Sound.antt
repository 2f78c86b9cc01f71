-- When a JSON value is sound: names are distinct in each object, and each number fits 64 bits.
use Rattle.std.specs.Prelude.{ℕ, ℤ, pos, negsuc, ◌≢◌, ◌≤ℤ◌, ◌^◌, ◌-◌, List, [], ◌∷◌, ⊤}
use Rattle.std.specs.List.{AllByRecursion}
use Rattle.schema_values.specs.declared.json_value.Json.{Json, Null, Bool, Int, Text, List', Object', Row_of-Json, end_of-Json, more_of-Json, Row_of-Member, end_of-Member, more_of-Member}

-- from -2^63 to 2^64-1
abbrev pub IsWhole : ℤ → Type 0
IsWhole n = (negsuc (2 ^ 63 - 1) ≤ℤ n) × (n ≤ℤ pos (2 ^ 64 - 1))

-- the names of some members, in their order
abbrev pub names : {m : _} → Row_of-Member m → List (List ℕ)
names end_of-Member = []
names (more_of-Member name value rest) = name ∷ names rest

-- no two of the names are equal
abbrev pub AreDistinct : List (List ℕ) → Type 0
AreDistinct [] = ⊤
AreDistinct (name ∷ rest) = AllByRecursion (λ other. name ≢ other) rest × AreDistinct rest

abbrev mutual
  -- the value and all values in it are sound
  pub IsSound : Json → Type 0
  IsSound Null = ⊤
  IsSound (Bool b) = ⊤
  IsSound (Int n) = IsWhole n
  IsSound (Text t) = ⊤
  IsSound (List' shape items) = AreSound items
  IsSound (Object' shape members) = AreSoundMembers members × AreDistinct (names members)

  -- each item is sound
  pub AreSound : {m : _} → Row_of-Json m → Type 0
  AreSound end_of-Json = ⊤
  AreSound (more_of-Json item rest) = IsSound item × AreSound rest

  -- the value of each member is sound
  pub AreSoundMembers : {m : _} → Row_of-Member m → Type 0
  AreSoundMembers end_of-Member = ⊤
  AreSoundMembers (more_of-Member name value rest) = IsSound value × AreSoundMembers rest
