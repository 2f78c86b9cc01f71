-- The places of things in a list, by their keys.
use Rattle.std.specs.Prelude.{◌≡◌, ◌++◌, ◌+◌, ◌-◌, ℕ, Bool, List, [], ◌∷◌, if◌then◌else◌, Option, Some, None, unwrap_or}
use Rattle.std.specs.Prelude.{bytes_eq, length, take}
use Rattle.std.specs.declared.cmp.Ordering.{Ordering}
use Rattle.std.specs.BTreeMap.{get}
use Rattle.std.specs.Cmp.Lexicographic.{slice_cmp}
use Rattle.std.specs.List.{list_any, slice_get}
use Rattle.std.specs.Ordering.{nat_cmp}
use Rattle.path_templates.specs.declared.place_index.PlaceIndex.{PlaceIndex}

-- the order of texts, by their characters
abbrev pub text_order : List ℕ → List ℕ → Ordering
text_order = slice_cmp nat_cmp

-- the places that stand at a key
abbrev pub places_at : PlaceIndex → List ℕ → List ℕ
places_at index key = unwrap_or (get text_order index.places key) []

-- one more place at a key
abbrev pub with_place : (List ℕ → List ℕ) → List ℕ → ℕ → List ℕ → List ℕ
with_place places key place q = if bytes_eq key q then places q ++ place ∷ [] else places q

-- one more place at each of some keys
abbrev pub with_places : (List ℕ → List ℕ) → List (List ℕ) → ℕ → List ℕ → List ℕ
with_places places [] place q = places q
with_places places (key ∷ keys) place q = with_place (with_places places keys place) key place q

-- the last place at a key away
abbrev pub without_last : (List ℕ → List ℕ) → List ℕ → List ℕ → List ℕ
without_last places key q = if bytes_eq key q then take (length (places q) - 1) (places q) else places q

-- the last place at each of some keys away, at the first key first
abbrev pub without_lasts : (List ℕ → List ℕ) → List (List ℕ) → List ℕ → List ℕ
without_lasts places [] q = places q
without_lasts places (key ∷ keys) q = without_lasts (without_last places key) keys q

-- one more place before others, if it has a key
abbrev pub if_keyed : List ℕ → List (List ℕ) → ℕ → List ℕ → List ℕ
if_keyed q keys place places = if list_any (λ key. bytes_eq key q) keys then place ∷ places else places

-- the places of the things that have a key, by the keys of each thing, counted from a number on
abbrev pub places_from : ℕ → List ℕ → List (List (List ℕ)) → List ℕ
places_from place q [] = []
places_from place q (keys ∷ rest) = if_keyed q keys place (places_from (place + 1) q rest)

-- An index has, at each key, the places of the things that have the key. Each thing is given by its keys.
abbrev pub IsIndexOf : List (List (List ℕ)) → PlaceIndex → Type 0
IsIndexOf things index = (key : List ℕ) → places_at index key ≡ places_from 0 key things

-- a thing of which a test holds, or else another
abbrev pub found_or : {A : Type 0} → (A → Bool) → Option A → Option A → Option A
found_or holds None other = other
found_or holds (Some x) other = if holds x then Some x else other

-- the first thing at some places of which a test holds
abbrev pub first_at : {A : Type 0} → (A → Bool) → List A → List ℕ → Option A
first_at holds all [] = None
first_at holds all (place ∷ places) = found_or holds (slice_get all place) (first_at holds all places)
