-- What is found in a list, and what a filter keeps.
use Rattle.std.proofs.Common.{◌≡◌, ◌⊎◌, suc, Bool, true, false, cond, List, [], ◌∷◌, Some}
use Rattle.std.proofs.Common.{refl, sym, ap, subst, ◌∙◌, inl, inr, arith}
use Rattle.std.specs.Prelude.{AllPairs, Contains, filter, find}
use Rattle.std.proofs.lemmas.Bool.{true≢false}
use Rattle.schema_values.proofs.CallerLemmas.{contains_cases, contains_first, contains_later}

module _ {X : Type 0} (p : X → Bool) where
  here_by : (y : X) (xs : List X) (x : X) → y ≡ x → Contains (y ∷ xs) x
  here_by y xs x same = subst (λ (z : X). Contains (y ∷ xs) z) same (contains_first y xs)

  -- what passes is kept
  pub kept : (xs : List X) (x : X) → Contains xs x → p x ≡ true → Contains (filter p xs) x
  kept [] x c h = absurd (omega (arith, c.1))
  kept (y ∷ xs) x c h = by_test (p y) refl (contains_cases y xs x c) (λ later. kept xs x later h)
    where
      by_test : (b : Bool) → p y ≡ b → (y ≡ x) ⊎ Contains xs x → (Contains xs x → Contains (filter p xs) x)
          → Contains (cond b (y ∷ filter p xs) (filter p xs)) x
      by_test true e (inl same) rest = here_by y (filter p xs) x same
      by_test true e (inr later) rest = contains_later y (filter p xs) x (rest later)
      by_test false e (inl same) rest = absurd (true≢false (sym h ∙ ap p (sym same) ∙ e))
      by_test false e (inr later) rest = rest later

  -- what is kept was there, and passes
  pub chosen : (xs : List X) (x : X) → Contains (filter p xs) x → Contains xs x × (p x ≡ true)
  chosen [] x c = absurd (omega (arith, c.1))
  chosen (y ∷ xs) x c = by_test (p y) refl c (chosen xs x)
    where
      by_test : (b : Bool) → p y ≡ b → Contains (cond b (y ∷ filter p xs) (filter p xs)) x
          → (Contains (filter p xs) x → Contains xs x × (p x ≡ true)) → Contains (y ∷ xs) x × (p x ≡ true)
      by_test true e c rest = elim (contains_cases y (filter p xs) x c) [
        | inl same ↦ (here_by y xs x same, ap p (sym same) ∙ e)
        | inr later ↦ (contains_later y xs x (rest later).0, (rest later).1)
      ]
      by_test false e c rest = (contains_later y xs x (rest c).0, (rest c).1)

  -- what is found was there, and passes
  pub found : (xs : List X) (x : X) → find p xs ≡ Some x → Contains xs x × (p x ≡ true)
  found [] x is = absurd (cc is)
  found (y ∷ xs) x is = by_test (p y) refl is (found xs x)
    where
      by_test : (b : Bool) → p y ≡ b → cond b (Some y) (find p xs) ≡ Some x
          → (find p xs ≡ Some x → Contains xs x × (p x ≡ true)) → Contains (y ∷ xs) x × (p x ≡ true)
      by_test true e here rest = let same : y ≡ x = cc here in (here_by y xs x same, ap p (sym same) ∙ e)
      by_test false e later rest = (contains_later y xs x (rest later).0, (rest later).1)

module _ {X : Type 0} (R : X → X → Type 0) (x : X) (xs : List X) (pairs : AllPairs R (x ∷ xs)) where
  -- the first of a list, and a later one
  pub first_pair : (y : X) → Contains xs y → R x y
  first_pair y c = subst (R x) c.2 (pairs 0 (suc c.0) y (omega arith) (omega (arith, c.1)))

  -- those behind the first
  pub later_pairs : AllPairs R xs
  later_pairs i j d up low = pairs (suc i) (suc j) d (omega (arith, up)) (omega (arith, low))
