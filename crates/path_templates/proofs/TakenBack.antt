-- Places that are added at some keys, and taken back.
use Rattle.std.proofs.Common.{◌≡◌, ℕ, ◌-◌, List, [], ◌∷◌, ◌++◌, length, take, refl, ap, ◌∙◌, inl, inr, arith, length-append, take_all}
use Rattle.std.specs.Prelude.{bytes_eq, if◌then◌else◌}
use Rattle.std.proofs.lemmas.Bool.{cases_Bool}
use Rattle.std.proofs.lemmas.List.{take-append-le}
use Rattle.path_templates.specs.Places.{with_place, with_places, without_last, without_lasts}

-- the items in front of the last
front_of : {A : Type 0} (xs : List A) (x : A) → take (length (xs ++ x ∷ []) - 1) (xs ++ x ∷ []) ≡ xs
front_of xs x =
    let long = length-append xs (x ∷ []) in
    let is : length (xs ++ x ∷ []) - 1 ≡ length xs = omega (arith, long) in
    ap (λ n. take n (xs ++ x ∷ [])) is ∙ take-append-le (length xs) xs (x ∷ []) (omega arith) ∙ take_all (length xs) xs (omega arith)

-- what was added last at a key is taken back
pub taken_back : (places : List ℕ → List ℕ) (place : ℕ) (old : List ℕ → List ℕ) (key : List ℕ) → ((q : List ℕ) → old q ≡ with_place places key place q) → (q : List ℕ) → without_last old key q ≡ places q
taken_back places place old key added q = elim (cases_Bool (bytes_eq key q)) [
  | inl here ↦
      let more : old q ≡ places q ++ place ∷ [] = rw here at (added q) in
      rw (here, more) (front_of (places q) place)
  | inr other ↦
      let same : old q ≡ places q = rw other at (added q) in
      rw other same
]

module _ (places : List ℕ → List ℕ) (place : ℕ) where
  -- one more key behind others
  with_places-push : (keys : List (List ℕ)) (key q : List ℕ) → with_place (with_places places keys place) key place q ≡ with_places places (keys ++ key ∷ []) place q
  with_places-push [] key q = refl
  with_places-push (first ∷ keys) key q =
      let rest = with_places-push keys key q in
      elim (cases_Bool (bytes_eq key q)) [
        | inl here ↦
            let is = rw here at rest in
            elim (cases_Bool (bytes_eq first q)) [
              | inl one ↦ rw (here, one) (ap (λ (xs : List ℕ). xs ++ place ∷ []) is)
              | inr two ↦ rw (here, two) is
            ]
        | inr other ↦
            let is = rw other at rest in
            elim (cases_Bool (bytes_eq first q)) [
              | inl one ↦ rw (other, one) (ap (λ (xs : List ℕ). xs ++ place ∷ []) is)
              | inr two ↦ rw (other, two) is
            ]
      ]

  pub places_more : (keys : List (List ℕ)) (key : List ℕ) (old new : List ℕ → List ℕ) → ((q : List ℕ) → new q ≡ with_place old key place q)
      → ((q : List ℕ) → old q ≡ with_places places keys place q) → (q : List ℕ) → new q ≡ with_places places (keys ++ key ∷ []) place q
  places_more keys key old new added were q =
      added q ∙ ap (λ (xs : List ℕ). if bytes_eq key q then xs ++ place ∷ [] else xs) (were q) ∙ with_places-push keys key q

  -- and so is what was added last at each of some keys
  pub lasts_back : (keys : List (List ℕ)) (old : List ℕ → List ℕ) → ((q : List ℕ) → old q ≡ with_places places keys place q) → (q : List ℕ) → without_lasts old keys q ≡ places q
  lasts_back [] old were q = were q
  lasts_back (key ∷ keys) old were q =
      lasts_back keys (without_last old key) (taken_back (λ r. with_places places keys place r) place old key were) q

-- the same at places that are the same at each key
pub lasts_same : (one two : List ℕ → List ℕ) → ((q : List ℕ) → one q ≡ two q) → (keys : List (List ℕ)) (q : List ℕ) → without_lasts one keys q ≡ without_lasts two keys q
lasts_same one two same [] q = same q
lasts_same one two same (key ∷ keys) q =
    lasts_same (without_last one key) (without_last two key)
    (λ r. elim (cases_Bool (bytes_eq key r)) [
      | inl here ↦ rw here (ap (λ (xs : List ℕ). take (length xs - 1) xs) (same r))
      | inr other ↦ rw other (same r)
    ]) keys q
