-- What stands in a sorted list is what stands in the list.
use Rattle.std.proofs.Common.{◌≡◌, ℕ, ◌+◌, Bool, true, false, ◌&&◌, ◌||◌, List, [], ◌∷◌, map, sum, fold, option_map, Some, None, bytes_eq, cond, refl, sym, ◌∙◌, ap, arith, Less, Equal, Greater, nat_cmp}
use Rattle.std.specs.declared.cmp.Ordering.{Ordering}
use Rattle.std.specs.Cmp.Lexicographic.{slice_cmp}
use Rattle.std.specs.List.{list_all, list_any, AllByRecursion}
use Rattle.std.specs.Prelude.{◌≢◌}
use Rattle.std.proofs.Math.Bool.{and-true, and_assoc, or-false, or_assoc}
use Rattle.std.proofs.lemmas.List.Sums.{sum_by-cons}
use Rattle.std.proofs.lemmas.Slice.Eq.{bytes_eq-Decides}
use Rattle.schema_values.specs.declared.json_value.Member.{Member}
use Rattle.schema_values.specs.Get.{first_named}
use Rattle.schema_values.specs.Member.{name_of}
use Rattle.schema_values.specs.Order.{at_place, inserted_by, sorted_by}
use Rattle.typed_values.specs.Order.{first_by}
use Rattle.typed_values.proofs.CallerLemmas as typed
use Rattle.descriptors.proofs.CallerLemmas.{other_name}

pub and_swapped : (a b c : Bool) → (a && (b && c)) ≡ (b && (a && c))
and_swapped true b c = refl
and_swapped false true c = refl
and_swapped false false c = refl

or_swapped : (a b c : Bool) → (a || (b || c)) ≡ (b || (a || c))
or_swapped false b c = refl
or_swapped true true c = refl
or_swapped true false c = refl

module _ {X : Type 0} (key : X → List ℕ) where
  abbrev pub inserting : List X → X → List X
  inserting sorted x = inserted_by key x sorted

  module _ (p : X → Bool) where
    all_placed : (o : Ordering) (x y : X) (rest later : List X) → list_all p later ≡ (p x && list_all p rest) → list_all p (at_place o x y rest later) ≡ (p x && (p y && list_all p rest))
    all_placed Less x y rest later e = refl
    all_placed Equal x y rest later e = ap (λ (b : Bool). p y && b) e ∙ and_swapped (p y) (p x) (list_all p rest)
    all_placed Greater x y rest later e = ap (λ (b : Bool). p y && b) e ∙ and_swapped (p y) (p x) (list_all p rest)

    all_inserted : (x : X) (xs : List X) → list_all p (inserted_by key x xs) ≡ (p x && list_all p xs)
    all_inserted x [] = refl
    all_inserted x (y ∷ rest) = all_placed (slice_cmp nat_cmp (key x) (key y)) x y rest (inserted_by key x rest) (all_inserted x rest)

    all_from : (done xs : List X) → list_all p (fold inserting done xs) ≡ (list_all p xs && list_all p done)
    all_from done [] = refl
    all_from done (x ∷ xs) = all_from (inserted_by key x done) xs ∙ ap (λ (b : Bool). list_all p xs && b) (all_inserted x done) ∙ and_swapped (list_all p xs) (p x) (list_all p done) ∙ sym (and_assoc (p x) (list_all p xs) (list_all p done))

    pub all_sorted : (xs : List X) → list_all p (sorted_by key xs) ≡ list_all p xs
    all_sorted xs = all_from [] xs ∙ and-true (list_all p xs)

    any_placed : (o : Ordering) (x y : X) (rest later : List X) → list_any p later ≡ (p x || list_any p rest) → list_any p (at_place o x y rest later) ≡ (p x || (p y || list_any p rest))
    any_placed Less x y rest later e = refl
    any_placed Equal x y rest later e = ap (λ (b : Bool). p y || b) e ∙ or_swapped (p y) (p x) (list_any p rest)
    any_placed Greater x y rest later e = ap (λ (b : Bool). p y || b) e ∙ or_swapped (p y) (p x) (list_any p rest)

    any_inserted : (x : X) (xs : List X) → list_any p (inserted_by key x xs) ≡ (p x || list_any p xs)
    any_inserted x [] = refl
    any_inserted x (y ∷ rest) = any_placed (slice_cmp nat_cmp (key x) (key y)) x y rest (inserted_by key x rest) (any_inserted x rest)

    any_from : (done xs : List X) → list_any p (fold inserting done xs) ≡ (list_any p xs || list_any p done)
    any_from done [] = refl
    any_from done (x ∷ xs) = any_from (inserted_by key x done) xs ∙ ap (λ (b : Bool). list_any p xs || b) (any_inserted x done) ∙ or_swapped (list_any p xs) (p x) (list_any p done) ∙ sym (or_assoc (p x) (list_any p xs) (list_any p done))

    pub any_sorted : (xs : List X) → list_any p (sorted_by key xs) ≡ list_any p xs
    any_sorted xs = any_from [] xs ∙ or-false (list_any p xs)

  module _ (g : X → ℕ) where
    plus : (x : X) (xs : List X) → sum (map g (x ∷ xs)) ≡ g x + sum (map g xs)
    plus x xs = sum_by-cons (λ n. n) (g x) (map g xs)

    sum_placed : (o : Ordering) (x y : X) (rest later : List X) → sum (map g later) ≡ g x + sum (map g rest) → sum (map g (at_place o x y rest later)) ≡ g x + (g y + sum (map g rest))
    sum_placed Less x y rest later e = omega (arith, plus x (y ∷ rest), plus y rest)
    sum_placed Equal x y rest later e = omega (arith, plus y later, e)
    sum_placed Greater x y rest later e = omega (arith, plus y later, e)

    sum_inserted : (x : X) (xs : List X) → sum (map g (inserted_by key x xs)) ≡ g x + sum (map g xs)
    sum_inserted x [] = plus x []
    sum_inserted x (y ∷ rest) = let e = sum_placed (slice_cmp nat_cmp (key x) (key y)) x y rest (inserted_by key x rest) (sum_inserted x rest) in omega (arith, e, plus y rest)

    sum_from : (done xs : List X) → sum (map g (fold inserting done xs)) ≡ sum (map g xs) + sum (map g done)
    sum_from done [] = omega arith
    sum_from done (x ∷ xs) = omega (arith, sum_from (inserted_by key x done) xs, sum_inserted x done, plus x xs)

    pub sum_sorted : (xs : List X) → sum (map g (sorted_by key xs)) ≡ sum (map g xs)
    sum_sorted xs = omega (arith, sum_from [] xs)

module _ (name : List ℕ) where
  -- a new name is found in none
  pub absent : (ms : List Member) → AllByRecursion (λ other. name ≢ other) (map name_of ms) → first_named name ms ≡ None
  absent [] h = refl
  absent (m ∷ ms) h = go (bytes_eq name m.name) refl (absent ms h.1)
    where
      go : (b : Bool) → bytes_eq name m.name ≡ b → first_named name ms ≡ None → cond b (Some m.value) (first_named name ms) ≡ None
      go true e f = absurd (h.0 ((bytes_eq-Decides name m.name).0 e))
      go false e f = f

either_way : (k l : List ℕ) → bytes_eq k l ≡ bytes_eq l k
either_way k l = by (bytes_eq k l) refl
  where
    by : (b : Bool) → bytes_eq k l ≡ b → b ≡ bytes_eq l k
    by true e = sym ((bytes_eq-Decides l k).1 (sym ((bytes_eq-Decides k l).0 e)))
    by false e = sym (other_name l k (λ same. let is : bytes_eq k l ≡ true = (bytes_eq-Decides k l).1 (sym same) in absurd (cc (e, is))))

-- what is found is the value of the first member of the name
first_found : (name : List ℕ) (ms : List Member) → first_named name ms ≡ option_map (λ m. m.value) (first_by name_of ms name)
first_found name [] = refl
first_found name (m ∷ ms) = ap (λ (b : Bool). cond b (Some m.value) (first_named name ms)) (either_way name m.name) ∙ by (bytes_eq m.name name) (first_found name ms)
  where
    by : (b : Bool) → first_named name ms ≡ option_map (λ m. m.value) (first_by name_of ms name)
        → cond b (Some m.value) (first_named name ms) ≡ option_map (λ m. m.value) (cond b (Some m) (first_by name_of ms name))
    by true e = refl
    by false e = e

-- each is found as before
pub first_sorted : (name : List ℕ) (ms : List Member) → first_named name (sorted_by name_of ms) ≡ first_named name ms
first_sorted name ms = first_found name (sorted_by name_of ms) ∙ ap (option_map (λ m. m.value)) (typed.first_sorted name_of ms name) ∙ sym (first_found name ms)
