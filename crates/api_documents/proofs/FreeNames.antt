-- The name that the search for a number finds is free, and the number the least: among one number more than there are
-- names one is free.
use Rattle.std.proofs.Common.{◌≡◌, ℕ, zero, suc, ◌+◌, ◌<◌, ◌≤◌, ◌^◌, true, false, cond, List, [], ◌∷◌, ◌++◌, length}
use Rattle.std.proofs.Common.{refl, sym, ◌∙◌, ap, subst, arith, inl, inr, Bool}
use Rattle.std.specs.Prelude.{bytes_eq}
use Rattle.std.specs.Fmt.{decimal}
use Rattle.std.specs.Str.Parse.{digits_value}
use Rattle.std.proofs.lemmas.Bool.{cases_Bool, cases_lt, or_cases, true≢false}
use Rattle.std.proofs.lemmas.Fmt.{decimal_is_IsNumeral_wide}
use Rattle.std.proofs.lemmas.Slice.Eq.{bytes_eq-Decides}
use Rattle.std.proofs.lemmas.List.{append_cancel_left}
use Rattle.api_documents.specs.ErrorNames.{IsLeastFree, free_from, free_name, is_taken}

-- numbers of 64 digits at most that are written alike are the same
wide_injective : (m n : ℕ) → m < 10 ^ 64 → n < 10 ^ 64 → decimal m ≡ decimal n → m ≡ n
wide_injective m n below below_too same =
    sym (decimal_is_IsNumeral_wide m below).1
    ∙ ap (digits_value 10) same
    ∙ (decimal_is_IsNumeral_wide n below_too).1

-- names without the first that is this one
without : List ℕ → List (List ℕ) → List (List ℕ)
without name [] = []
without name (first ∷ names) = cond (bytes_eq name first) names (first ∷ without name names)

-- one name less
length-without : (name : List ℕ) (names : List (List ℕ)) → is_taken names name ≡ true
    → length (without name names) + 1 ≡ length names
unfolding without
length-without name [] taken = absurd (true≢false (sym taken))
length-without name (first ∷ names) taken = elim (cases_Bool (bytes_eq name first)) [
  | inl same ↦ rw same (omega arith)
  | inr other ↦ let rest = length-without name names (rw other at taken) in rw other (omega (arith, rest))
]

-- another name stays
taken-without : (name other : List ℕ) (names : List (List ℕ)) → (name ≡ other → ⊥) → is_taken names other ≡ true
    → is_taken (without name names) other ≡ true
unfolding without
taken-without name other [] differ taken = taken
taken-without name other (first ∷ names) differ taken = elim (cases_Bool (bytes_eq name first)) [
  | inl same ↦ elim (or_cases (bytes_eq other first) (is_taken names other) taken) [
    | inl here ↦ absurd (differ ((bytes_eq-Decides name first).0 same ∙ sym ((bytes_eq-Decides other first).0 here)))
    | inr later ↦ rw same later
  ]
  | inr unlike ↦ elim (or_cases (bytes_eq other first) (is_taken names other) taken) [
    | inl here ↦ rw (unlike, here) refl
    | inr later ↦ let rest = taken-without name other names differ later in elim (cases_Bool (bytes_eq other first)) [
      | inl here ↦ rw (unlike, here) refl
      | inr there ↦ rw (unlike, there) rest
    ]
  ]
]

module _ (names : List (List ℕ)) (name : List ℕ) where
  at : ℕ → List ℕ
  at number = name ++ decimal number

  -- each name that a number from this one on makes, and that is taken, is one of some names
  record Covers (number : ℕ) (some : List (List ℕ)) : Type 0 where
    covers : (k : ℕ) → number ≤ k → k < 10 ^ 64 → is_taken names (at k) ≡ true → is_taken some (at k) ≡ true

  free_among : (more number : ℕ) (some : List (List ℕ)) → length some ≤ more → number + more < 10 ^ 64
      → Covers number some
      → is_taken names (at (free_from names name number more)) ≡ false
  unfolding at
  free_among zero number [] few small covered = elim (cases_Bool (is_taken names (at number))) [
    | inl taken ↦ absurd (true≢false (sym (covered.covers number (omega arith) (omega arith) taken)))
    | inr free ↦ free
  ]
  free_among zero number (first ∷ some) few small covered = absurd (omega (arith, few))
  free_among (suc more) number some few small covered = elim (cases_Bool (is_taken names (at number))) [
    | inl taken ↦
        let here = covered.covers number (omega arith) (omega arith) taken in
        let fewer = length-without (at number) some here in
        let rest =
        free_among more (number + 1) (without (at number) some) (omega (arith, fewer, few)) (omega (arith, small))
        (record {
          covers = λ k above below t.
              taken-without (at number) (at k) some
              (λ same. let equal = wide_injective number k (omega arith) below
              (append_cancel_left name _ _ same) in omega (arith, equal, above))
              (covered.covers k (omega arith) below t);
        }) in
        rw taken rest
    | inr free ↦ rw free free
  ]

  -- the number that the search finds makes the name free
  pub free_found : length names + 2 < 10 ^ 64 → is_taken names (free_name names name) ≡ false
  unfolding at
  free_found small = elim (cases_Bool (is_taken names name)) [
    | inl taken ↦ rw taken
        (free_among (length names) 2 names (omega arith) (omega (arith, small))
        (record { covers = λ k above below t. t }))
    | inr free ↦ rw free free
  ]

  -- ---- the number that is found is the least

  from_start : (more number : ℕ) → number ≤ free_from names name number more
  from_start zero number = omega arith
  from_start (suc more) number = by_test (is_taken names (name ++ decimal number)) (from_start more (number + 1))
    where
      by_test : (b : Bool) → number + 1 ≤ free_from names name (number + 1) more
          → number ≤ cond b (free_from names name (number + 1) more) number
      by_test true later = omega (arith, later)
      by_test false later = omega arith

  taken_before : (more number k : ℕ) → number ≤ k → k < free_from names name number more
      → is_taken names (name ++ decimal k) ≡ true
  taken_before zero number k above below = absurd (omega (arith, above, below))
  taken_before (suc more) number k above below =
      by_test (is_taken names (name ++ decimal number)) refl below (taken_before more (number + 1) k)
    where
      by_test : (b : Bool) → is_taken names (name ++ decimal number) ≡ b
          → k < cond b (free_from names name (number + 1) more) number
          → (number + 1 ≤ k → k < free_from names name (number + 1) more → is_taken names (name ++ decimal k) ≡ true)
          → is_taken names (name ++ decimal k) ≡ true
      by_test true taken inside later = elim (cases_lt number k) [
        | inl past ↦ later (omega (arith, past)) inside
        | inr here ↦
            let same : number ≡ k = omega (arith, above, here) in
            subst (λ (n : ℕ). is_taken names (name ++ decimal n) ≡ true) same taken
      ]
      by_test false free inside later = absurd (omega (arith, above, inside))

  -- a name that is free is given itself
  pub free_itself : is_taken names name ≡ false → free_name names name ≡ name
  free_itself free = ap (λ (b : Bool). cond b (name ++ decimal (free_from names name 2 (length names))) name) free

  -- one that is taken is given with the least number that makes it free
  pub least_found : length names + 2 < 10 ^ 64 → is_taken names name ≡ true
      → (number : ℕ) × IsLeastFree names name number × (free_name names name ≡ name ++ decimal number)
  unfolding at
  least_found small taken = (
    free_from names name 2 (length names),
    record {
      from_two = from_start (length names) 2;
      free = free_among (length names) 2 names (omega arith) (omega (arith, small))
          (record { covers = λ k above below t. t });
      least = λ k above below. taken_before (length names) 2 k above below;
    },
    ap (λ (b : Bool). cond b (name ++ decimal (free_from names name 2 (length names))) name) taken,
  )
