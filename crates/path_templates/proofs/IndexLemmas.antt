-- An index of places by keys: one more place, and the first thing that is found by it.
use Rattle.std.proofs.Common.{◌≡◌, ℕ, ◌+◌, ◌<◌, ◌-◌, drop, take, get_or, add-one, drop-cons, Bool, true, false, List, [], ◌∷◌, ◌++◌, length, map, Option, Some, None, refl, sym, ap, subst, ◌∙◌, append_assoc, length-append, inl, inr, arith}
use Rattle.std.specs.Prelude.{bytes_eq, find, if◌then◌else◌, unwrap_or}
use Rattle.std.specs.BTreeMap.{is_at}
use Rattle.std.specs.List.{list_any, slice_get}
use Rattle.std.proofs.lemmas.Bool.{cases_Bool}
use Rattle.std.proofs.lemmas.Map.Text.{is_eq-slice_cmp}
use Rattle.std.proofs.lemmas.Slice.Eq.{bytes_eq-Decides}
use Rattle.path_templates.specs.Places.{IsIndexOf, first_at, found_or, places_at, places_from, text_order, with_place, without_last}
use Rattle.path_templates.specs.declared.place_index.PlaceIndex.{PlaceIndex}

-- what stands at each key, where something was put at one
module _ (old new : List ℕ → Option (List ℕ)) (key after : List ℕ)
    (updates : (q : List ℕ) → new q ≡ (if is_at (text_order key) q then Some after else old q)) where
  pub place_added : (place : ℕ) → after ≡ unwrap_or (old key) [] ++ place ∷ []
      → (q : List ℕ) → unwrap_or (new q) [] ≡ with_place (λ r. unwrap_or (old r) []) key place q
  place_added place is q = elim (cases_Bool (bytes_eq key q)) [
    | inl here ↦
        let same = (bytes_eq-Decides key q).0 here in
        rw (updates q, is_eq-slice_cmp key q, here) (is ∙ ap (λ r. unwrap_or (old r) [] ++ place ∷ []) same)
    | inr other ↦ rw (updates q, is_eq-slice_cmp key q, other) refl
  ]

  pub place_taken : after ≡ take (length (unwrap_or (old key) []) - 1) (unwrap_or (old key) [])
      → (q : List ℕ) → unwrap_or (new q) [] ≡ without_last (λ r. unwrap_or (old r) []) key q
  place_taken is q = elim (cases_Bool (bytes_eq key q)) [
    | inl here ↦
        let same = (bytes_eq-Decides key q).0 here in
        rw (updates q, is_eq-slice_cmp key q, here) (is ∙ ap (λ r. take (length (unwrap_or (old r) []) - 1) (unwrap_or (old r) [])) same)
    | inr other ↦ rw (updates q, is_eq-slice_cmp key q, other) refl
  ]

  pub place_kept : Some after ≡ old key → (q : List ℕ) → unwrap_or (new q) [] ≡ unwrap_or (old q) []
  place_kept is q = elim (cases_Bool (bytes_eq key q)) [
    | inl here ↦
        let same = (bytes_eq-Decides key q).0 here in
        rw (updates q, is_eq-slice_cmp key q, here) (ap (λ found. unwrap_or found []) (is ∙ ap old same))
    | inr other ↦ rw (updates q, is_eq-slice_cmp key q, other) refl
  ]

-- nothing is taken where nothing stands
pub nothing_taken : (old : List ℕ → Option (List ℕ)) (key : List ℕ) → None ≡ old key → (q : List ℕ) → unwrap_or (old q) [] ≡ without_last (λ r. unwrap_or (old r) []) key q
nothing_taken old key is q = elim (cases_Bool (bytes_eq key q)) [
  | inl here ↦
      let none : old q ≡ None = sym (is ∙ ap old ((bytes_eq-Decides key q).0 here)) in
      rw (here, none) refl
  | inr other ↦ rw other refl
]

-- whether one of some keys is a given one
abbrev has_key : List ℕ → List (List ℕ) → Bool
has_key q keys = list_any (λ key. bytes_eq key q) keys

-- the places among one thing more
places_from-push : (n : ℕ) (q : List ℕ) (things : List (List (List ℕ))) (keys : List (List ℕ))
    → places_from n q (things ++ keys ∷ []) ≡ (if has_key q keys then places_from n q things ++ (n + length things) ∷ [] else places_from n q things)
places_from-push n q [] keys = elim (cases_Bool (has_key q keys)) [ inl here ↦ rw here (ap (λ m. m ∷ []) (omega arith)) | inr other ↦ rw other refl ]
places_from-push n q (first ∷ things) keys =
    let rest = places_from-push (n + 1) q things keys in
    let place : n + 1 + length things ≡ n + length (first ∷ things) = omega arith in
    elim (cases_Bool (has_key q keys)) [
      | inl here ↦ elim (cases_Bool (has_key q first)) [
        | inl one ↦ rw (one, rest, here, place) refl
        | inr two ↦ rw (two, rest, here, place) refl
      ]
      | inr other ↦ elim (cases_Bool (has_key q first)) [
        | inl one ↦ rw (one, rest, other) refl
        | inr two ↦ rw (two, rest, other) refl
      ]
    ]

-- an index with one thing more, which has one key
pub index-push : (things : List (List (List ℕ))) (key : List ℕ) (old new : PlaceIndex)
    → ((q : List ℕ) → places_at new q ≡ with_place (places_at old) key (length things) q) → IsIndexOf things old → IsIndexOf (things ++ (key ∷ []) ∷ []) new
index-push things key old new added is q = elim (cases_Bool (bytes_eq key q)) [
  | inl here ↦ rw (places_from-push 0 q things (key ∷ []), added q, here, is q) (ap (λ n. places_from 0 q things ++ n ∷ []) (omega arith))
  | inr other ↦ rw (places_from-push 0 q things (key ∷ []), added q, other, is q) refl
]

-- an index with one thing more, which has no key
pub index-keyless : (things : List (List (List ℕ))) (index : PlaceIndex) → IsIndexOf things index → IsIndexOf (things ++ [] ∷ []) index
index-keyless things index is q = rw (places_from-push 0 q things []) (is q)

-- an index that has the places of before
pub index-kept : (things : List (List (List ℕ))) (old new : PlaceIndex) → ((q : List ℕ) → places_at new q ≡ places_at old q) → IsIndexOf things old → IsIndexOf things new
index-kept things old new kept is q = kept q ∙ is q

-- the thing behind a front
slice_get-front : {A : Type 0} (front : List A) (x : A) (rest : List A) → slice_get (front ++ x ∷ rest) (length front) ≡ Some x
slice_get-front [] x rest = refl
slice_get-front (y ∷ front) x rest = slice_get-front front x rest

-- the first thing that is found by its keys is the first at all
module _ {A : Type 0} (keys_of : A → List (List ℕ)) (holds : A → Bool) (q : List ℕ) (only : (x : A) → holds x ≡ true → has_key q (keys_of x) ≡ true) where
  found_behind : (all front es : List A) → all ≡ front ++ es → first_at holds all (places_from (length front) q (map keys_of es)) ≡ find holds es
  found_behind all front [] is = refl
  found_behind all front (e ∷ es) is =
      let next = found_behind all (front ++ e ∷ []) es (is ∙ sym (append_assoc front (e ∷ []) es)) in
      let rest : first_at holds all (places_from (length front + 1) q (map keys_of es)) ≡ find holds es =
      subst (λ n. first_at holds all (places_from n q (map keys_of es)) ≡ find holds es) (length-append front (e ∷ [])) next in
      let here : slice_get all (length front) ≡ Some e = ap (λ xs. slice_get xs (length front)) is ∙ slice_get-front front e es in
      elim (cases_Bool (has_key q (keys_of e))) [
        | inl same ↦ rw (same, here, rest) refl
        | inr other ↦ elim (cases_Bool (holds e)) [
          | inl yes_here ↦ let clash : false ≡ true = sym other ∙ only e yes_here in absurd (cc clash)
          | inr not_here ↦ rw (other, not_here) rest
        ]
      ]

  pub found_by_index : (all : List A) (index : PlaceIndex) → IsIndexOf (map keys_of all) index → first_at holds all (places_at index q) ≡ find holds all
  found_by_index all index is = ap (first_at holds all) (is q) ∙ found_behind all [] all refl

-- the walk over places, step by step
module _ {A : Type 0} (holds : A → Bool) (all : List A) where
  found_or-some : (found : Option A) (other : Option A) (e : A) → Some e ≡ found_or holds found None → found_or holds found other ≡ Some e
  found_or-some None other e is = absurd (cc is)
  found_or-some (Some x) other e is = elim (cases_Bool (holds x)) [
    | inl here ↦ rw here (sym (rw here at is))
    | inr not_here ↦ let clash = rw not_here at is in absurd (cc clash)
  ]

  found_or-none : (found : Option A) (other : Option A) → None ≡ found_or holds found None → found_or holds found other ≡ other
  found_or-none None other is = refl
  found_or-none (Some x) other is = elim (cases_Bool (holds x)) [
    | inl here ↦ let clash = rw here at is in absurd (cc clash)
    | inr not_here ↦ rw not_here refl
  ]

  module _ (places : List ℕ) (i : ℕ) (inside : i < length places) where
    step : first_at holds all (drop i places) ≡ found_or holds (slice_get all (get_or places i 0)) (first_at holds all (drop (i + 1) places))
    step = rw (add-one, drop-cons places i 0 inside) refl

    pub found_here : (e : A) → Some e ≡ found_or holds (slice_get all (get_or places i 0)) None → first_at holds all (drop i places) ≡ Some e
    found_here e is = step ∙ found_or-some (slice_get all (get_or places i 0)) (first_at holds all (drop (i + 1) places)) e is

    pub found_later : None ≡ found_or holds (slice_get all (get_or places i 0)) None → first_at holds all (drop i places) ≡ first_at holds all (drop (i + 1) places)
    found_later is = step ∙ found_or-none (slice_get all (get_or places i 0)) (first_at holds all (drop (i + 1) places)) is
