-- How many things pass a test of which one at most does.
use Rattle.std.proofs.Common.{◌≡◌, ◌≢◌, ℕ, ◌+◌, Bool, true, false, ◌||◌, List, [], ◌∷◌, map, count_by, cond, ◌==◌, refl, ◌∙◌, ap, arith}
use Rattle.std.proofs.lemmas.List.Sums.{sum_by-cons}
use Rattle.std.specs.List.{list_any, AllByRecursion}
use Rattle.std.specs.Prelude.{Contains}
use Rattle.schema_values.specs.Sound.{AreDistinct}
use Rattle.schema_values.proofs.CallerLemmas.{contains_first, contains_later}
use Rattle.typed_values.proofs.CallerLemmas.{AreDistinct-cons}

pub none_of : {X : Type 0} (p : X → Bool) → ((x : X) → p x ≡ false) → (xs : List X) → list_any p xs ≡ false
none_of p none [] = refl
none_of p none (x ∷ xs) = ap (λ (b : Bool). b || list_any p xs) (none x) ∙ none_of p none xs

-- one where a test holds, else nothing
abbrev pub count : Bool → ℕ
count b = cond b 1 0

pub one_counted : (b : Bool) → (count b == 1) ≡ b
one_counted true = refl
one_counted false = refl

-- one or the other, and never both
pub either_counted : (here later : Bool) → (here ≡ true → later ≡ false) → count here + count later ≡ count (here || later)
either_counted true true none = absurd (let never : true ≡ false = none refl in cc never)
either_counted true false none = refl
either_counted false true none = refl
either_counted false false none = refl

-- one name at most passes
module _ {X : Type 0} (name : X → List ℕ) (p : X → Bool) (once : (a b : X) → p a ≡ true → p b ≡ true → name a ≡ name b) where
  pub no_other : (x : X) (xs : List X) → p x ≡ true → AllByRecursion (λ other. name x ≢ name other) xs → list_any p xs ≡ false
  no_other x [] e h = refl
  no_other x (other ∷ xs) e h = by_test (p other) refl (no_other x xs e h.1)
    where
      by_test : (b : Bool) → p other ≡ b → list_any p xs ≡ false → (b || list_any p xs) ≡ false
      by_test true f later = absurd (h.0 (once x other e f))
      by_test false f later = later

  -- so of things with distinct names there is one where any passes
  pub counted_once : (xs : List X) → AreDistinct (map name xs) → count_by p xs ≡ count (list_any p xs)
  counted_once [] h = refl
  counted_once (x ∷ xs) h =
      let (new, rest) = (AreDistinct-cons name x xs).0 h in
      sum_by-cons (λ x. count (p x)) x xs ∙ ap (λ (k : ℕ). count (p x) + k) (counted_once xs rest) ∙ either_counted (p x) (list_any p xs) (λ e. no_other x xs e new)

-- what things are mapped to passes where they do
pub counted_map : {X Y : Type 0} (p : Y → Bool) (q : X → Bool) (f : X → Y) (xs : List X) → ((x : X) → Contains xs x → p (f x) ≡ q x) → count_by p (map f xs) ≡ count_by q xs
counted_map p q f [] h = refl
counted_map p q f (x ∷ xs) h =
    omega (arith, counted_map p q f xs (λ y c. h y (contains_later x xs y c)), sum_by-cons (λ y. count (p y)) (f x) (map f xs), sum_by-cons (λ x. count (q x)) x xs, ap count (h x (contains_first x xs)))
