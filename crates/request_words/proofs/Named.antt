-- All things of a name, among things in the order of their names: they stand between two places.
use Rattle.std.proofs.Common.{◌≡◌, ℕ, zero, suc, ◌+◌, ◌<◌, ◌≤◌, Bool, true, false, not, List, [], ◌∷◌, length, map, ◌-◌, option_map, drop, take, filter, bytes_eq, cond, Less, Equal, Greater, nat_cmp, is_lt, refl, sym, ◌∙◌, ap, ap₂, arith, get_or, inl, inr}
use Rattle.std.proofs.lemmas.Bool.{cases_Bool, cond-true, cond-false, false_from_ne_true}
use Rattle.std.proofs.lemmas.Cmp.{nat_list_cmp_total, tied_itself}
use Rattle.std.proofs.lemmas.List.{length-drop, get_or-drop, length-map}
use Rattle.std.proofs.lemmas.List.Sorted.{ranks_by, sorted_far}
use Rattle.std.proofs.lemmas.Map.Lookups.{exact_bytes}
use Rattle.std.proofs.lemmas.Slice.Eq.{bytes_eq-Decides}
use Rattle.std.proofs.Math.ListN.{get_or-map}
use Rattle.std.specs.Cmp.Lexicographic.{slice_cmp}
use Rattle.std.specs.declared.cmp.Ordering.{Ordering}
use Rattle.std.specs.List.{AllWithin}
use Rattle.std.specs.List.Sorted.{IsPartitionedBy, IsPartitionPoint, IsSortedByKey}
use Rattle.std.specs.Ordering.{ordering_reverse}
use Rattle.std.specs.Prelude.{slice_get}
use Rattle.schema_values.specs.Order.{sorted_by}
use Rattle.schema_values.proofs.CallerLemmas.{less, kept_sorted}
use Rattle.request_words.specs.NameOrder.{is_before, is_not_after}
use Rattle.request_words.specs.Pairs.{last_text}

other_name : (n m : List ℕ) → (n ≡ m → ⊥) → bytes_eq n m ≡ false
other_name n m other = false_from_ne_true (bytes_eq n m) (λ h. other ((bytes_eq-Decides n m).0 h))

module _ {X : Type 0} (p : X → Bool) where
  kept_behind : (xs : List X) (i : ℕ) → AllWithin (λ x. p x ≡ false) xs 0 i → filter p xs ≡ filter p (drop i xs)
  kept_behind [] zero h = refl
  kept_behind [] (suc i) h = refl
  kept_behind (x ∷ xs) zero h = refl
  kept_behind (x ∷ xs) (suc i) h = cond-false _ _ _ (h 0 x (omega arith) (omega arith)) ∙ kept_behind xs i (λ k e from to. h (suc k) e (omega arith) (omega (arith, to)))

  kept_front : (xs : List X) (n : ℕ) → IsPartitionPoint (λ x. p x ≡ true) (λ x. p x ≡ false) xs n → filter p xs ≡ take n xs
  kept_front [] zero h = refl
  kept_front [] (suc n) h = refl
  kept_front (x ∷ xs) zero h = cond-false _ _ _ (h.1 0 x (omega arith) (omega arith)) ∙ kept_front xs zero (λ k e from to. absurd (omega (arith, to)), λ k e from to. h.1 (suc k) e (omega arith) (omega (arith, to)))
  kept_front (x ∷ xs) (suc n) h =
      cond-true _ _ _ (h.0 0 x (omega arith) (omega arith))
      ∙ ap (λ (ys : List X). x ∷ ys) (kept_front xs n (λ k e from to. h.0 (suc k) e (omega arith) (omega (arith, to)), λ k e from to. h.1 (suc k) e (omega (arith, from)) (omega (arith, to))))

  pub kept_mapped : {Y : Type 0} (f : Y → X) (ys : List Y) → filter p (map f ys) ≡ map f (filter (λ y. p (f y)) ys)
  kept_mapped f [] = refl
  kept_mapped {Y} f (y ∷ ys) = by_test (p (f y)) (kept_mapped f ys)
    where
      by_test : (b : Bool) → filter p (map f ys) ≡ map f (filter (λ y. p (f y)) ys)
          → cond b (f y ∷ filter p (map f ys)) (filter p (map f ys)) ≡ map f (cond b (y ∷ filter (λ y. p (f y)) ys) (filter (λ y. p (f y)) ys))
      by_test true e = ap (λ (xs : List X). f y ∷ xs) e
      by_test false e = e

module _ {X : Type 0} (key : X → List ℕ) (name : List ℕ) where
  abbrev pub is_named : X → Bool
  is_named x = bytes_eq (key x) name

  other_before : (x : X) → is_before key name x ≡ true → is_named x ≡ false
  other_before x low = other_name (key x) name (λ same. let is_not : is_before key name x ≡ false = ap (λ (k : List ℕ). is_lt (slice_cmp nat_cmp k name)) same ∙ ap is_lt (tied_itself nat_list_cmp_total name) in absurd (cc (low, is_not)))

  other_after : (x : X) → is_not_after key name x ≡ false → is_named x ≡ false
  other_after x high = other_name (key x) name (λ same. let is : is_not_after key name x ≡ true = ap (λ (k : List ℕ). not (is_lt (slice_cmp nat_cmp name k))) same ∙ ap (λ (o : Ordering). not (is_lt o)) (tied_itself nat_list_cmp_total name) in absurd (cc (high, is)))

  same_between : (x : X) → is_before key name x ≡ false → is_not_after key name x ≡ true → is_named x ≡ true
  same_between x low high = (bytes_eq-Decides (key x) name).1 (by_order (slice_cmp nat_cmp (key x) name) refl low (ap (λ (o : Ordering). not (is_lt o)) (sym (nat_list_cmp_total.antisymm name (key x))) ∙ high))
    where
      by_order : (o : Ordering) → slice_cmp nat_cmp (key x) name ≡ o → is_lt o ≡ false → not (is_lt (ordering_reverse o)) ≡ true → key x ≡ name
      by_order Less e low high = absurd (cc low)
      by_order Equal e low high = exact_bytes (key x) name e
      by_order Greater e low high = absurd (cc high)

  module _ (xs : List X) (sorted : IsSortedByKey key (slice_cmp nat_cmp) xs) where
    far : (i j : ℕ) (d : X) → i ≤ j → j < length xs → is_lt (slice_cmp nat_cmp (key (get_or xs j d)) (key (get_or xs i d))) ≡ false
    far = sorted_far (λ x y. is_lt (slice_cmp nat_cmp (key x) (key y))) (ranks_by nat_list_cmp_total key) xs sorted

    -- what the first search by halves asks
    pub halved : IsPartitionedBy (is_before key name) xs
    halved i j d from low before = elim (cases_Bool (is_before key name (get_or xs i d))) [
      | inl is ↦ is
      | inr behind ↦
          let is_not : is_before key name (get_or xs j d) ≡ false = (ranks_by nat_list_cmp_total (λ (k : List ℕ). k)).chain (key (get_or xs j d)) (key (get_or xs i d)) name (far i j d from low) behind in
          absurd (cc (before, is_not))
    ]

    module _ (i : ℕ) where
      at : (k : ℕ) (d : X) → get_or (drop i xs) k d ≡ get_or xs (i + k) d
      at k d = get_or-drop i xs k d

      -- what the second one asks
      pub halved_behind : IsPartitionedBy (is_not_after key name) (drop i xs)
      halved_behind j k d from low is = elim (cases_Bool (is_lt (slice_cmp nat_cmp name (key (get_or (drop i xs) j d))))) [
        | inl high ↦
            let up : is_lt (slice_cmp nat_cmp (key (get_or xs (i + k) d)) (key (get_or xs (i + j) d))) ≡ false = far (i + j) (i + k) d (omega (arith, from)) (omega (arith, low, length-drop i xs)) in
            let here : is_lt (slice_cmp nat_cmp name (key (get_or xs (i + k) d))) ≡ false = by_not _ (ap (λ (x : X). is_not_after key name x) (sym (at k d)) ∙ is) in
            let none : is_lt (slice_cmp nat_cmp name (key (get_or xs (i + j) d))) ≡ false = (ranks_by nat_list_cmp_total (λ (k : List ℕ). k)).chain name (key (get_or xs (i + k) d)) (key (get_or xs (i + j) d)) here up in
            absurd (cc (high, ap (λ (x : X). is_lt (slice_cmp nat_cmp name (key x))) (at j d), none))
        | inr low ↦ ap not low
      ]
        where
          by_not : (b : Bool) → not b ≡ true → b ≡ false
          by_not true e = absurd (cc e)
          by_not false e = refl

      -- between the two places stand all things of the name
      pub between : (n : ℕ) → n ≤ length (drop i xs) → IsPartitionPoint (λ x. is_before key name x ≡ true) (λ x. is_before key name x ≡ false) xs i
          → IsPartitionPoint (λ x. is_not_after key name x ≡ true) (λ x. is_not_after key name x ≡ false) (drop i xs) n → take n (drop i xs) ≡ filter is_named xs
      between n within before after =
          sym (kept_front is_named (drop i xs) n (
            λ k d from to. same_between (get_or (drop i xs) k d) (ap (is_before key name) (at k d) ∙ before.1 (i + k) d (omega arith) (omega (arith, within, to, length-drop i xs))) (after.0 k d from to),
            λ k d from to. other_after (get_or (drop i xs) k d) (after.1 k d from to),
          ))
          ∙ sym (kept_behind is_named xs i (λ k d from to. other_before (get_or xs k d) (before.0 k d from to)))

-- things behind references are in order as the references are
pub sorted_behind : {X Y : Type 0} (f : Y → X) (key : X → List ℕ) (ys : List Y) → IsSortedByKey key (slice_cmp nat_cmp) (map f ys) → IsSortedByKey (λ y. key (f y)) (slice_cmp nat_cmp) ys
sorted_behind {X} f key ys sorted k d from low =
    let n : length (map f ys) ≡ length ys = length-map ys f in
    ap₂ (λ (x y : X). is_lt (slice_cmp nat_cmp (key x) (key y))) (sym (get_or-map f ys (k + 1) d)) (sym (get_or-map f ys k d)) ∙ sorted k (f d) from (omega (arith, low, n))

-- the last of some values
pub last_at : {X : Type 0} (f : X → List ℕ) (xs : List X) → last_text (map f xs) ≡ option_map f (slice_get xs (length xs - 1))
last_at f [] = refl
last_at f (x ∷ []) = refl
last_at {X} f (x ∷ y ∷ xs) =
    let less : suc (length (y ∷ xs) - 1) ≡ length (x ∷ y ∷ xs) - 1 = omega arith in
    last_at f (y ∷ xs) ∙ ap (λ (n : ℕ). option_map f (slice_get (x ∷ y ∷ xs) n)) less

-- things of one name keep their order
pub named_sorted : {X : Type 0} (key : X → List ℕ) (name : List ℕ) (xs : List X) → filter (is_named key name) (sorted_by key xs) ≡ filter (is_named key name) xs
named_sorted {X} key name xs = kept_sorted key (is_named key name) one_name xs
  where
    one_name : (x y : X) → is_named key name x ≡ true → less key x y ≡ true → is_named key name y ≡ false
    one_name x y e low = other_name (key y) name (λ same.
        let both : key y ≡ key x = same ∙ sym ((bytes_eq-Decides (key x) name).0 e) in
        let is_not : less key x y ≡ false = ap (λ (k : List ℕ). is_lt (slice_cmp nat_cmp (key x) k)) both ∙ ap is_lt (tied_itself nat_list_cmp_total (key x)) in
        absurd (cc (low, is_not)))

pub two_maps : {X Y Z : Type 0} (f : Y → Z) (g : X → Y) (h : X → Z) → ((x : X) → f (g x) ≡ h x) → (xs : List X) → map f (map g xs) ≡ map h xs
two_maps f g h same [] = refl
two_maps {Z = Z} f g h same (x ∷ xs) = ap (λ (z : Z). z ∷ map f (map g xs)) (same x) ∙ ap (λ (zs : List Z). h x ∷ zs) (two_maps f g h same xs)
