-- What a stable sort by names leaves is the list in the order of its names.
use Rattle.std.proofs.Common.{◌≡◌, ℕ, zero, suc, ◌+◌, ◌<◌, ◌≤◌, Bool, true, false, ◌&&◌, not, List, [], ◌∷◌, ◌++◌, length, get_or, drop, filter, fold, cond, refl, sym, ◌∙◌, ap, ap₂, subst, Less, Equal, Greater, nat_cmp, is_lt, arith, inl, inr}
use Rattle.std.proofs.lemmas.Bool.{cases_Bool, cond-true, cond-false, and_parts, not-true}
use Rattle.std.proofs.lemmas.Cmp.{nat_list_cmp_total, tied_itself}
use Rattle.std.proofs.lemmas.List.{append_assoc, append-nil, drop_more}
use Rattle.std.proofs.lemmas.List.Elements.{filter-append}
use Rattle.std.proofs.lemmas.List.Sorted.{ranks_by, sorted_far}
use Rattle.std.specs.Bool.{⊤}
use Rattle.std.specs.Cmp.{IsStrictWeakOrder}
use Rattle.std.specs.Cmp.Lexicographic.{slice_cmp}
use Rattle.std.specs.declared.cmp.Ordering.{Ordering}
use Rattle.std.specs.List.{AllByRecursion}
use Rattle.std.specs.List.Sorted.{IsSortedBy, IsSortedByKey, IsStableBy, ties}
use Rattle.schema_values.specs.Order.{at_place, inserted_by, sorted_by}
use Rattle.schema_values.proofs.SortedLemmas.{all_inserted}

clash : (b : Bool) → b ≡ true → b ≡ false → ⊥
clash true e f = absurd (cc f)
clash false e f = absurd (cc e)

module _ {X : Type 0} (key : X → List ℕ) where
  abbrev pub less : X → X → Bool
  less x y = is_lt (slice_cmp nat_cmp (key x) (key y))

  pub ranks : IsStrictWeakOrder less
  ranks = ranks_by nat_list_cmp_total key

  itself : (x : X) → less x x ≡ false
  itself x = ap is_lt (tied_itself nat_list_cmp_total (key x))

  -- none of some things is before a thing
  abbrev NoneBefore : X → List X → Type 0
  NoneBefore x ys = AllByRecursion (λ y. less y x ≡ false) ys

  -- nothing is before what stands ahead of it
  abbrev Rises : List X → Type 0
  Rises [] = ⊤
  Rises (x ∷ xs) = NoneBefore x xs × Rises xs

  none_before : (x y : X) (ys : List X) → less y x ≡ false → NoneBefore y ys → NoneBefore x ys
  none_before x y [] h all = tt
  none_before x y (z ∷ zs) h all = (ranks.chain z y x all.0 h, none_before x y zs h all.1)

  -- ---- lists that rise, and sorted lists

  before_none : (x : X) (xs : List X) → ((k : ℕ) → k < length xs → less (get_or xs k x) x ≡ false) → NoneBefore x xs
  before_none x [] h = tt
  before_none x (y ∷ ys) h = (h 0 (omega arith), before_none x ys (λ k low. h (suc k) (omega (arith, low))))

  rises_far : (xs : List X) → ((i j : ℕ) (d : X) → i ≤ j → j < length xs → less (get_or xs j d) (get_or xs i d) ≡ false) → Rises xs
  rises_far [] h = tt
  rises_far (x ∷ xs) h = (before_none x xs (λ k low. h 0 (suc k) x (omega arith) (omega (arith, low))), rises_far xs (λ i j d up low. h (suc i) (suc j) d (omega (arith, up)) (omega (arith, low))))

  rises : (xs : List X) → IsSortedBy less xs → Rises xs
  rises xs sorted = rises_far xs (sorted_far less ranks xs sorted)

  next_none : (xs : List X) → Rises xs → (k : ℕ) (d : X) → suc k < length xs → less (get_or xs (suc k) d) (get_or xs k d) ≡ false
  next_none [] h k d low = absurd (omega (arith, low))
  next_none (x ∷ []) h k d low = absurd (omega (arith, low))
  next_none (x ∷ y ∷ ys) h zero d low = h.0.0
  next_none (x ∷ y ∷ ys) h (suc k) d low = next_none (y ∷ ys) h.1 k d (omega (arith, low))

  rises_behind : (xs : List X) (i : ℕ) → Rises xs → Rises (drop i xs)
  rises_behind [] zero up = tt
  rises_behind [] (suc i) up = tt
  rises_behind (x ∷ xs) zero up = up
  rises_behind (x ∷ xs) (suc i) up = rises_behind xs i up.1

  -- behind a thing none is before it
  pub none_before_at : (xs : List X) → IsSortedBy less xs → (i : ℕ) (x : X) → i < length xs → x ≡ get_or xs i x → NoneBefore x (drop (i + 1) xs)
  none_before_at xs sorted i x low is =
      let there : drop i xs ≡ x ∷ drop (i + 1) xs = drop_more xs i x low ∙ ap (λ (y : X). y ∷ drop (i + 1) xs) (sym is) in
      (subst Rises there (rises_behind xs i (rises xs sorted))).0

  -- ---- what is put in order rises

  rises_placed : (o : Ordering) (x y : X) (ys later : List X) → slice_cmp nat_cmp (key x) (key y) ≡ o → Rises (y ∷ ys) → (less x y ≡ false → NoneBefore y later) → Rises later → Rises (at_place o x y ys later)
  rises_placed Less x y ys later e up behind after =
      let back = ranks.one_way x y (ap is_lt e) in ((back, none_before x y ys back up.0), up)
  rises_placed Equal x y ys later e up behind after = (behind (ap is_lt e), after)
  rises_placed Greater x y ys later e up behind after = (behind (ap is_lt e), after)

  rises_inserted : (x : X) (ys : List X) → Rises ys → Rises (inserted_by key x ys)
  rises_inserted x [] up = (tt, tt)
  rises_inserted x (y ∷ ys) up =
      rises_placed (slice_cmp nat_cmp (key x) (key y)) x y ys (inserted_by key x ys) refl up (λ h. all_inserted (λ z. less z y ≡ false) key x ys h up.0) (rises_inserted x ys up.1)

  rises_after : (done xs : List X) → Rises done → Rises (fold (λ sorted x. inserted_by key x sorted) done xs)
  rises_after done [] up = up
  rises_after done (x ∷ xs) up = rises_after (inserted_by key x done) xs (rises_inserted x done up)

  rises_sorted : (xs : List X) → Rises (sorted_by key xs)
  rises_sorted xs = rises_after [] xs tt

  -- things in order are sorted
  pub sorted_is_sorted : (xs : List X) → IsSortedByKey key (slice_cmp nat_cmp) (sorted_by key xs)
  sorted_is_sorted xs k d from low =
      let next : k + 1 ≡ suc k = omega arith in
      let n : suc k < length (sorted_by key xs) = omega (arith, low) in
      ap (λ (i : ℕ). less (get_or (sorted_by key xs) i d) (get_or (sorted_by key xs) k d)) next ∙ next_none (sorted_by key xs) (rises_sorted xs) k d n

  -- ---- what has one name keeps its order

  -- a test that holds of one name at most
  module _ (p : X → Bool) (one : (x y : X) → p x ≡ true → less x y ≡ true → p y ≡ false) where
    none_pass : (x y : X) (ys : List X) → p x ≡ true → less x y ≡ true → NoneBefore y ys → filter p ys ≡ []
    none_pass x y [] px low all = refl
    none_pass x y (z ∷ zs) px low all =
        let far : less x z ≡ true = elim (cases_Bool (less x z)) [
          | inl is ↦ is
          | inr not_so ↦ absurd (clash (less x y) low (ranks.chain x z y not_so all.0))
        ] in
        cond-false _ _ _ (one x z px far) ∙ none_pass x y zs px low all.1

    first_or_last : (b : Bool) (x : X) (l : List X) → (b ≡ true → l ≡ []) → cond b (x ∷ l) l ≡ l ++ cond b (x ∷ []) []
    first_or_last true x l h = ap₂ (λ (a c : List X). a ++ x ∷ c) (sym (h refl)) (h refl)
    first_or_last false x l h = sym (append-nil l)

    kept_placed : (o : Ordering) (x y : X) (ys later : List X) → slice_cmp nat_cmp (key x) (key y) ≡ o → NoneBefore y ys → filter p later ≡ filter p (ys ++ x ∷ []) → filter p (at_place o x y ys later) ≡ filter p (y ∷ ys ++ x ∷ [])
    kept_placed Less x y ys later e up same =
        first_or_last (p x) x (filter p (y ∷ ys)) (λ px. cond-false _ _ _ (one x y px (ap is_lt e)) ∙ none_pass x y ys px (ap is_lt e) up)
        ∙ sym (filter-append p (y ∷ ys) (x ∷ []))
    kept_placed Equal x y ys later e up same = ap (λ (l : List X). cond (p y) (y ∷ l) l) same
    kept_placed Greater x y ys later e up same = ap (λ (l : List X). cond (p y) (y ∷ l) l) same

    kept_inserted : (x : X) (ys : List X) → Rises ys → filter p (inserted_by key x ys) ≡ filter p (ys ++ x ∷ [])
    kept_inserted x [] up = refl
    kept_inserted x (y ∷ ys) up = kept_placed (slice_cmp nat_cmp (key x) (key y)) x y ys (inserted_by key x ys) refl up.0 (kept_inserted x ys up.1)

    kept_after : (done xs : List X) → Rises done → filter p (fold (λ sorted x. inserted_by key x sorted) done xs) ≡ filter p (done ++ xs)
    kept_after done [] up = ap (filter p) (sym (append-nil done))
    kept_after done (x ∷ xs) up =
        kept_after (inserted_by key x done) xs (rises_inserted x done up)
        ∙ filter-append p (inserted_by key x done) xs
        ∙ ap (λ (l : List X). l ++ filter p xs) (kept_inserted x done up)
        ∙ sym (filter-append p (done ++ x ∷ []) xs)
        ∙ ap (filter p) (append_assoc done (x ∷ []) xs)

    -- what passes stands in the order that it had
    pub kept_sorted : (xs : List X) → filter p (sorted_by key xs) ≡ filter p xs
    kept_sorted xs = kept_after [] xs tt

  -- ---- one list alone is sorted and has kept its order

  abbrev tied : X → X → Bool
  tied = ties less

  tied_both : (x y : X) → less x y ≡ false → less y x ≡ false → tied x y ≡ true
  tied_both x y low high = ap₂ (λ (a b : Bool). not a && not b) low high

  tied_parts : (x y : X) → tied x y ≡ true → (less x y ≡ false) × (less y x ≡ false)
  tied_parts x y h = let parts = and_parts (not (less x y)) (not (less y x)) h in (not-true (less x y) parts.0, not-true (less y x) parts.1)

  one_tied : (t x y : X) → tied t x ≡ true → less x y ≡ true → tied t y ≡ false
  one_tied t x y h low = elim (cases_Bool (tied t y)) [
    | inr is ↦ is
    | inl both ↦ absurd (clash (less x y) low (ranks.chain x t y (tied_parts t x h).1 (tied_parts t y both).0))
  ]

  -- what ties with one of some things is before nothing that none of them is before
  not_before : (z t : X) (ys : List X) (w : X) (ws : List X) → NoneBefore z ys → filter (tied t) ys ≡ w ∷ ws → less t z ≡ false
  not_before z t [] w ws all e = absurd (cc e)
  not_before z t (y ∷ ys) w ws all e = elim (cases_Bool (tied t y)) [
    | inl both ↦ ranks.chain t y z (tied_parts t y both).0 all.0
    | inr apart ↦ not_before z t ys w ws all.1 (sym (cond-false _ _ _ apart) ∙ e)
  ]

  tied_first : (y : X) (ys : List X) → filter (tied y) (y ∷ ys) ≡ y ∷ filter (tied y) ys
  tied_first y ys = cond-true _ _ _ (tied_both y y (itself y) (itself y))

  same_rising : (ys zs : List X) → Rises ys → Rises zs → ((t : X) → filter (tied t) ys ≡ filter (tied t) zs) → ys ≡ zs
  same_rising [] [] left right same = refl
  same_rising [] (z ∷ zs) left right same = let bad : [] ≡ z ∷ filter (tied z) zs = same z ∙ tied_first z zs in absurd (cc bad)
  same_rising (y ∷ ys) [] left right same = let bad : [] ≡ y ∷ filter (tied y) ys = sym (same y) ∙ tied_first y ys in absurd (cc bad)
  same_rising (y ∷ ys) (z ∷ zs) left right same =
      let up = not_before z y (z ∷ zs) y (filter (tied y) ys) (itself z, right.0) (sym (same y) ∙ tied_first y ys) in
      let down = not_before y z (y ∷ ys) z (filter (tied z) zs) (itself y, left.0) (same z ∙ tied_first z zs) in
      let heads : y ∷ filter (tied y) ys ≡ z ∷ filter (tied y) zs = sym (tied_first y ys) ∙ same y ∙ cond-true _ _ _ (tied_both y z up down) in
      let head : y ≡ z = cc heads in
      let tails : (t : X) → filter (tied t) ys ≡ filter (tied t) zs =
      λ t. elim (cases_Bool (tied t y)) [
        | inl both ↦
            let all : y ∷ filter (tied t) ys ≡ z ∷ filter (tied t) zs = sym (cond-true _ _ _ both) ∙ same t ∙ cond-true _ _ _ (ap (tied t) (sym head) ∙ both) in cc all
        | inr apart ↦ sym (cond-false _ _ _ apart) ∙ same t ∙ cond-false _ _ _ (ap (tied t) (sym head) ∙ apart)
      ] in
      ap₂ (λ (a : X) (l : List X). a ∷ l) head (same_rising ys zs left.1 right.1 tails)

  -- a list that is sorted by names, and where those of one name keep their order
  pub stably_sorted : (xs ys : List X) → IsSortedBy less ys → IsStableBy less xs ys → ys ≡ sorted_by key xs
  stably_sorted xs ys sorted stable =
      same_rising ys (sorted_by key xs) (rises ys sorted) (rises_sorted xs) (λ t. stable t ∙ sym (kept_sorted (tied t) (one_tied t) xs))
