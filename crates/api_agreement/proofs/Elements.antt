-- What holds of the things in a list, what is made of them, and what an option holds.
use Rattle.std.proofs.Common.{◌≡◌, Bool, true, false, ◌||◌, List, [], ◌∷◌, ◌++◌, Option, Some, None, map, refl, sym}
use Rattle.std.proofs.Common.{subst, arith, inl, inr}
use Rattle.std.proofs.lemmas.List.Elements.{Contains-append_left, Contains-append_right}
use Rattle.std.specs.List.{flat_map, list_any}
use Rattle.std.specs.Prelude.{◌≢◌, Contains}
use Rattle.schema_values.proofs.CallerLemmas.{contains_cases, contains_first, contains_later}

-- ---- what fails of all

pub neither : (a b : Bool) → (a || b) ≡ false → (a ≡ false) × (b ≡ false)
neither true b h = absurd (cc h)
neither false b h = (refl, h)

pub fails_of : {A : Type 0} (p : A → Bool) (xs : List A) → list_any p xs ≡ false → (x : A) → Contains xs x → p x ≡ false
fails_of p [] h x c = absurd (omega (arith, c.1))
fails_of p (y ∷ xs) h x c =
    let parts = neither (p y) (list_any p xs) h in
    elim (contains_cases y xs x c) [
      | inl same ↦ subst (λ z. p z ≡ false) same parts.0
      | inr later ↦ fails_of p xs parts.1 x later
    ]

-- ---- what is made of a thing

pub made_of : {A B : Type 0} (f : A → B) (xs : List A) (x : A) → Contains xs x → Contains (map f xs) (f x)
made_of f [] x c = absurd (omega (arith, c.1))
made_of f (y ∷ xs) x c = elim (contains_cases y xs x c) [
  | inl same ↦ subst (λ z. Contains (f y ∷ map f xs) (f z)) same (contains_first (f y) (map f xs))
  | inr later ↦ contains_later (f y) (map f xs) (f x) (made_of f xs x later)
]

pub joined_of : {A B : Type 0} (f : A → List B) (xs : List A) (x : A) (y : B) → Contains xs x → Contains (f x) y
    → Contains (flat_map f xs) y
joined_of f [] x y c k = absurd (omega (arith, c.1))
joined_of f (z ∷ xs) x y c k = elim (contains_cases z xs x c) [
  | inl same ↦ subst (λ w. Contains (f w ++ flat_map f xs) y) (sym same)
      (Contains-append_left (f x) (flat_map f xs) y k)
  | inr later ↦ Contains-append_right (f z) (flat_map f xs) y (joined_of f xs x y later k)
]

-- ---- what is there

pub is_there : {X : Type 0} (o : Option X) → o ≢ None → (x : X) × (o ≡ Some x)
is_there None never = absurd (never refl)
is_there (Some x) never = (x, refl)
