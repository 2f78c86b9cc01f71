-- What holds of each element of a list, and sums over it.
use Rattle.std.proofs.Common.{◌≡◌, ℕ, ◌+◌, ◌≤◌, List, [], ◌∷◌, ◌++◌, map, sum, refl, ap, ap₂, arith, inl, inr}
use Rattle.std.specs.Prelude.{Contains}
use Rattle.std.proofs.lemmas.List.Sums.{sum_by-cons}
use Rattle.schema_values.proofs.CallerLemmas.{contains_first, contains_later, contains_cases}

module _ {A : Type 0} where
  pub among_none : {P : Type 0} (x : A) → Contains [] x → P
  among_none x c = absurd (omega (arith, c.1))

  pub among_left : (xs ys : List A) (x : A) → Contains xs x → Contains (xs ++ ys) x
  among_left [] ys x c = among_none x c
  among_left (y ∷ xs) ys x c = elim (contains_cases y xs x c) [ inl e ↦ (0, omega arith, e) | inr k ↦ contains_later y (xs ++ ys) x (among_left xs ys x k) ]

  pub among_right : (xs ys : List A) (x : A) → Contains ys x → Contains (xs ++ ys) x
  among_right [] ys x c = c
  among_right (y ∷ xs) ys x c = contains_later y (xs ++ ys) x (among_right xs ys x c)

  pub map_alike : {B : Type 0} (f g : A → B) (xs : List A) → ((x : A) → Contains xs x → f x ≡ g x) → map f xs ≡ map g xs
  map_alike f g [] h = refl
  map_alike f g (x ∷ xs) h = ap₂ (λ (a : _) (l : List _). a ∷ l) (h x (contains_first x xs)) (map_alike f g xs (λ y c. h y (contains_later x xs y c)))

  module _ (f g : A → ℕ) where
    sum_cons : (h : A → ℕ) (x : A) (xs : List A) → sum (map h (x ∷ xs)) ≡ h x + sum (map h xs)
    sum_cons h x xs = sum_by-cons (λ n. n) (h x) (map h xs)

    pub one_fits : (xs : List A) (x : A) → Contains xs x → f x ≤ sum (map f xs)
    one_fits [] x c = among_none x c
    one_fits (y ∷ xs) x c = elim (contains_cases y xs x c) [ inl e ↦ omega (arith, ap f e, sum_cons f y xs) | inr k ↦ omega (arith, one_fits xs x k, sum_cons f y xs) ]

    pub sums_fit : (xs : List A) → ((x : A) → Contains xs x → f x ≤ g x) → sum (map f xs) ≤ sum (map g xs)
    sums_fit [] h = omega arith
    sums_fit (x ∷ xs) h = omega (arith, h x (contains_first x xs), sums_fit xs (λ y c. h y (contains_later x xs y c)), sum_cons f x xs, sum_cons g x xs)

    -- one element counts for itself beside the others
    pub others_fit : (xs : List A) → ((x : A) → Contains xs x → f x ≤ g x) → (x : A) → Contains xs x → sum (map f xs) + g x ≤ sum (map g xs) + f x
    others_fit [] h x c = among_none x c
    others_fit (y ∷ xs) h x c = elim (contains_cases y xs x c) [
      | inl e ↦ omega (arith, ap f e, ap g e, sums_fit xs (λ z k. h z (contains_later y xs z k)), sum_cons f y xs, sum_cons g y xs)
      | inr k ↦ omega (arith, others_fit xs (λ z k. h z (contains_later y xs z k)) x k, h y (contains_first y xs), sum_cons f y xs, sum_cons g y xs)
    ]

pub sum_append : {A : Type 0} (f : A → ℕ) (xs ys : List A) → sum (map f (xs ++ ys)) ≡ sum (map f xs) + sum (map f ys)
sum_append f [] ys = omega arith
sum_append f (x ∷ xs) ys = omega (arith, sum_append f xs ys, sum_by-cons (λ n. n) (f x) (map f (xs ++ ys)), sum_by-cons (λ n. n) (f x) (map f xs))
