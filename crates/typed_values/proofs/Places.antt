-- Where a search by halves finds a name among things in the order of their names.
use Rattle.std.proofs.Common.{◌≡◌, ◌≢◌, ℕ, zero, suc, ◌+◌, ◌<◌, ◌≤◌, Bool, true, false, List, [], ◌∷◌, length, map, Some, None, option_map, bytes_eq, cond, nat_cmp, is_lt, refl, sym, ◌∙◌, ap, ap₂, arith, get_or, inl, inr, ⊎_elim}
use Rattle.std.proofs.lemmas.Bool.{cases_Bool, cases_lt, cond-true, cond-false}
use Rattle.std.proofs.lemmas.Cmp.{nat_list_cmp_total, tied_itself}
use Rattle.std.proofs.lemmas.List.{length-map}
use Rattle.std.proofs.lemmas.List.Sorted.{ranks_by, sorted_far}
use Rattle.std.proofs.lemmas.Slice.Eq.{bytes_eq-Decides}
use Rattle.std.proofs.Math.ListN.{get_or-map}
use Rattle.std.specs.Cmp.Lexicographic.{slice_cmp}
use Rattle.std.specs.List.{All, AllWithin, find}
use Rattle.std.specs.List.Sorted.{IsPartitionedBy, IsPartitionPoint, IsSortedByKey}
use Rattle.typed_values.specs.Order.{first_by}
use Rattle.descriptors.proofs.CallerLemmas.{other_name, same_unless}

-- ---- a search by halves

find_none : {X : Type 0} (p : X → Bool) (xs : List X) → All (λ x. p x ≡ false) xs → find p xs ≡ None
find_none p [] h = refl
find_none p (x ∷ xs) h = cond-false _ _ _ (h 0 x (omega arith)) ∙ find_none p xs (λ k d low. h (suc k) d (omega (arith, low)))

-- the first that passes, where none ahead of it does
find_here : {X : Type 0} (p : X → Bool) (xs : List X) (i : ℕ) (d : X) → i < length xs → AllWithin (λ x. p x ≡ false) xs 0 i → p (get_or xs i d) ≡ true → find p xs ≡ Some (get_or xs i d)
find_here p [] i d low ahead here = absurd (omega (arith, low))
find_here p (x ∷ xs) zero d low ahead here = cond-true _ _ _ here
find_here p (x ∷ xs) (suc i) d low ahead here =
    cond-false _ _ _ (ahead 0 d (omega arith) (omega arith)) ∙ find_here p xs i d (omega (arith, low)) (λ k e from to. ahead (suc k) e (omega arith) (omega (arith, to))) here

module _ {X : Type 0} (key : X → List ℕ) (name : List ℕ) where
  abbrev pub is_before : X → Bool
  is_before x = is_lt (slice_cmp nat_cmp (key x) name)

  abbrev is_named : X → Bool
  is_named x = bytes_eq (key x) name

  before_other : (x : X) → is_before x ≡ true → is_named x ≡ false
  before_other x low = other_name (key x) name (λ same. let is_not : is_before x ≡ false = ap (λ (k : List ℕ). is_lt (slice_cmp nat_cmp k name)) same ∙ ap is_lt (tied_itself nat_list_cmp_total name) in absurd (cc (low, is_not)))

  module _ (xs : List X) (sorted : IsSortedByKey key (slice_cmp nat_cmp) xs) where
    far : (i j : ℕ) (d : X) → i ≤ j → j < length xs → is_lt (slice_cmp nat_cmp (key (get_or xs j d)) (key (get_or xs i d))) ≡ false
    far = sorted_far (λ x y. is_lt (slice_cmp nat_cmp (key x) (key y))) (ranks_by nat_list_cmp_total key) xs sorted

    -- what a search by halves asks
    pub halved : IsPartitionedBy is_before xs
    halved i j d from low before = elim (cases_Bool (is_before (get_or xs i d))) [
      | inl is ↦ is
      | inr behind ↦
          let is_not : is_before (get_or xs j d) ≡ false = (ranks_by nat_list_cmp_total (λ (k : List ℕ). k)).chain (key (get_or xs j d)) (key (get_or xs i d)) name (far i j d from low) behind in
          absurd (cc (before, is_not))
    ]

    module _ (i : ℕ) (at : IsPartitionPoint (λ x. is_before x ≡ true) (λ x. is_before x ≡ false) xs i) where
      -- the first of the name stands where the search ends
      pub first_here : (d : X) → i < length xs → key (get_or xs i d) ≡ name → first_by key xs name ≡ Some (get_or xs i d)
      first_here d low same =
          find_here is_named xs i d low (λ k e from to. before_other (get_or xs k e) (at.0 k e from to)) ((bytes_eq-Decides (key (get_or xs i d)) name).1 same)

      none_behind : ((d : X) → i < length xs → key (get_or xs i d) ≢ name) → (k : ℕ) (d : X) → i ≤ k → k < length xs → key (get_or xs k d) ≢ name
      none_behind other k d from low same =
          let here : i < length xs = omega arith in
          let high : is_lt (slice_cmp nat_cmp name (key (get_or xs i d))) ≡ false = ap (λ (n : List ℕ). is_lt (slice_cmp nat_cmp n (key (get_or xs i d)))) (sym same) ∙ far i k d from low in
          let turned = ap is_lt (sym (nat_list_cmp_total.antisymm name (key (get_or xs i d)))) ∙ high in
          other d here (same_unless (key (get_or xs i d)) name (slice_cmp nat_cmp (key (get_or xs i d)) name) refl (at.1 i d (omega arith) here) turned)

      -- nothing has the name, where what stands there has another
      pub none_here : ((d : X) → i < length xs → key (get_or xs i d) ≢ name) → first_by key xs name ≡ None
      none_here other = find_none is_named xs (λ k d low.
          ⊎_elim (λ ahead. before_other (get_or xs k d) (at.0 k d (omega arith) ahead))
          (λ behind. other_name (key (get_or xs k d)) name (none_behind other k d behind low)) (cases_lt k i))

-- ---- the same among references

module _ {X Y : Type 0} (f : Y → X) where
  pub taken_behind : (ys : List Y) (xs : List X) → map f ys ≡ xs → (i : ℕ) (y : Y) → i < length ys → y ≡ get_or ys i y → (i < length xs) × (f y ≡ get_or xs i (f y))
  taken_behind ys xs same i y low is =
      let n : length xs ≡ length ys = ap length (sym same) ∙ length-map ys f in
      (omega (arith, low, n), ap f is ∙ sym (get_or-map f ys i y) ∙ ap (λ (some : List X). get_or some i (f y)) same)

module _ {X Y : Type 0} (f : Y → X) (key : X → List ℕ) where
  pub sorted_behind : (ys : List Y) → IsSortedByKey key (slice_cmp nat_cmp) (map f ys) → IsSortedByKey (λ y. key (f y)) (slice_cmp nat_cmp) ys
  sorted_behind ys sorted k d from low =
      let n : length (map f ys) ≡ length ys = length-map ys f in
      ap₂ (λ (x y : X). is_lt (slice_cmp nat_cmp (key x) (key y))) (sym (get_or-map f ys (k + 1) d)) (sym (get_or-map f ys k d)) ∙ sorted k (f d) from (omega (arith, low, n))

  pub first_behind : (ys : List Y) (name : List ℕ) → first_by key (map f ys) name ≡ option_map f (first_by (λ y. key (f y)) ys name)
  first_behind [] name = refl
  first_behind (y ∷ ys) name = by (bytes_eq (key (f y)) name) (first_behind ys name)
    where
      by : (b : Bool) → first_by key (map f ys) name ≡ option_map f (first_by (λ y. key (f y)) ys name)
          → cond b (Some (f y)) (first_by key (map f ys) name) ≡ option_map f (cond b (Some y) (first_by (λ y. key (f y)) ys name))
      by true e = refl
      by false e = e
