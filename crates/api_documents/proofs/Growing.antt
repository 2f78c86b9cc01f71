-- Parts of a list that grow step by step stay as they are after as many steps as the list has items.
use Rattle.std.proofs.Common.{◌≡◌, ℕ, zero, suc, ◌+◌, ◌<◌, ◌≤◌, List, [], ◌∷◌, length, Bool, true, false, cond, ◌⊎◌}
use Rattle.std.proofs.Common.{inl, inr, refl, sym, ◌∙◌, arith}
use Rattle.std.specs.List.{AllByRecursion}

module _ {X : Type 0} where
  -- how many items pass a test
  passing : (X → Bool) → List X → ℕ
  passing p [] = 0
  passing p (x ∷ xs) = cond (p x) 1 0 + passing p xs

  at_most : (p : X → Bool) (xs : List X) → passing p xs ≤ length xs
  unfolding passing
  at_most p [] = omega arith
  at_most p (x ∷ xs) = by_test (p x) (at_most p xs)
    where
      by_test : (b : Bool) → passing p xs ≤ length xs → cond b 1 0 + passing p xs ≤ suc (length xs)
      by_test true h = omega (arith, h)
      by_test false h = omega (arith, h)

  module _ (p q : X → Bool) (grows : (x : X) → p x ≡ true → q x ≡ true) where
    no_fewer : (xs : List X) → passing p xs ≤ passing q xs
    unfolding passing
    no_fewer [] = omega arith
    no_fewer (x ∷ xs) = by_tests (p x) (q x) (grows x) (no_fewer xs)
      where
        by_tests : (b c : Bool) → (b ≡ true → c ≡ true) → passing p xs ≤ passing q xs
            → cond b 1 0 + passing p xs ≤ cond c 1 0 + passing q xs
        by_tests true true h k = omega (arith, k)
        by_tests true false h k = absurd (cc (h refl))
        by_tests false true h k = omega (arith, k)
        by_tests false false h k = omega (arith, k)

    IsSame : List X → Type 0
    IsSame xs = AllByRecursion (λ x. q x ≡ p x) xs

    same_or_more : (xs : List X) → IsSame xs ⊎ (suc (passing p xs) ≤ passing q xs)
    unfolding passing IsSame
    same_or_more [] = inl tt
    same_or_more (x ∷ xs) = by_tests (p x) (q x) refl refl (grows x) (same_or_more xs)
      where
        by_tests : (b c : Bool) → p x ≡ b → q x ≡ c → (b ≡ true → c ≡ true)
            → AllByRecursion (λ x. q x ≡ p x) xs ⊎ (suc (passing p xs) ≤ passing q xs)
            → ((q x ≡ p x) × AllByRecursion (λ x. q x ≡ p x) xs)
            ⊎ (suc (cond (p x) 1 0 + passing p xs) ≤ cond (q x) 1 0 + passing q xs)
        by_tests true true e f h (inl same) = inl (f ∙ sym e, same)
        by_tests true true e f h (inr more) = inr (rw (e, f) (omega (arith, more)))
        by_tests true false e f h rest = absurd (cc (h refl))
        by_tests false true e f h rest = inr (rw (e, f) (omega (arith, no_fewer xs)))
        by_tests false false e f h (inl same) = inl (f ∙ sym e, same)
        by_tests false false e f h (inr more) = inr (rw (e, f) (omega (arith, more)))

-- a test that more items pass at each step, and that says of the next step what it says of this one where the items
-- pass alike
module _ {X : Type 0} (items : List X) (q : ℕ → X → Bool)
    (grows : (n : ℕ) (x : X) → q n x ≡ true → q (suc n) x ≡ true) where
  abbrev pub StaysAt : ℕ → Type 0
  StaysAt n = AllByRecursion (λ x. q (suc n) x ≡ q n x) items

  first_stay : (n : ℕ) → ((k : ℕ) × (k < n) × StaysAt k) ⊎ (n ≤ passing (q n) items)
  unfolding IsSame
  first_stay zero = inr (omega arith)
  first_stay (suc n) = elim (first_stay n) [
    | inl found ↦ inl (found.0, omega (arith, found.1), found.2)
    | inr enough ↦ elim (same_or_more (q n) (q (suc n)) (grows n) items) [
      | inl same ↦ inl (n, omega arith, same)
      | inr more ↦ inr (omega (arith, more, enough))
    ]
  ]

  -- some step leaves all items as they are
  pub some_stay : (k : ℕ) × (k ≤ length items) × StaysAt k
  some_stay = elim (first_stay (suc (length items))) [
    | inl found ↦ (found.0, omega (arith, found.1), found.2)
    | inr enough ↦ absurd (omega (arith, enough, at_most (q (suc (length items))) items))
  ]
