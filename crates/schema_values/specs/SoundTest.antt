-- Whether a JSON value is sound, as a truth value.
use Rattle.std.specs.Prelude.{ℕ, ℤ, pos, negsuc, Bool, true, ◌&&◌, not, int_le, ◌^◌, ◌-◌, List, [], ◌∷◌, bytes_eq}
use Rattle.std.specs.List.{list_all}
use Rattle.schema_values.specs.declared.json_value.Json.{Json, Null, Bool as Truth, Int, Text, List', Object', Row_of-Json, end_of-Json, more_of-Json, Row_of-Member, end_of-Member, more_of-Member}
use Rattle.schema_values.specs.Sound.{names}

-- from -2^63 to 2^64-1
abbrev pub is_whole : ℤ → Bool
is_whole n = int_le (negsuc (2 ^ 63 - 1)) n && int_le n (pos (2 ^ 64 - 1))

-- no two of the names are equal
abbrev pub are_distinct : List (List ℕ) → Bool
are_distinct [] = true
are_distinct (name ∷ rest) = list_all (λ other. not (bytes_eq name other)) rest && are_distinct rest

abbrev mutual
  -- the value and all values in it are sound
  pub is_sound : Json → Bool
  is_sound Null = true
  is_sound (Truth b) = true
  is_sound (Int n) = is_whole n
  is_sound (Text t) = true
  is_sound (List' shape items) = are_sound items
  is_sound (Object' shape members) = are_sound_members members && are_distinct (names members)

  -- each item is sound
  pub are_sound : {m : _} → Row_of-Json m → Bool
  are_sound end_of-Json = true
  are_sound (more_of-Json item rest) = is_sound item && are_sound rest

  -- the value of each member is sound
  pub are_sound_members : {m : _} → Row_of-Member m → Bool
  are_sound_members end_of-Member = true
  are_sound_members (more_of-Member name value rest) = is_sound value && are_sound_members rest
