-- Elements of a list: the first, and those behind it.
use Rattle.std.proofs.Common.{◌≡◌, ℕ, zero, suc, ◌<◌, List, ◌∷◌, length, refl, arith, ◌⊎◌, inl, inr, slice_index_or}
use Rattle.std.specs.Prelude.{Contains}

module _ {A : Type 0} where
  pub contains_first : (x : A) (xs : List A) → Contains (x ∷ xs) x
  contains_first x xs = (0, omega arith, refl)

  pub contains_later : (y : A) (xs : List A) (x : A) → Contains xs x → Contains (y ∷ xs) x
  contains_later y xs x c = (suc c.0, omega (arith, c.1), c.2)

  contains_by : (y : A) (xs : List A) (x : A) (k : ℕ) → k < suc (length xs) → slice_index_or (y ∷ xs) k x ≡ x → (y ≡ x) ⊎ Contains xs x
  contains_by y xs x zero h g = inl g
  contains_by y xs x (suc k) h g = inr (k, omega (arith, h), g)

  pub contains_cases : (y : A) (xs : List A) (x : A) → Contains (y ∷ xs) x → (y ≡ x) ⊎ Contains xs x
  contains_cases y xs x c = contains_by y xs x c.0 c.1 c.2
