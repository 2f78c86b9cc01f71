-- Things whose names are distinct, in the order of names: the order is strict, and what ascends is in order.
use Rattle.std.proofs.Common.{◌≡◌, ◌≢◌, ℕ, true, ◌&&◌, List, [], ◌∷◌, ◌++◌, map, fold, refl, sym, ◌∙◌, ap, Less, Equal, Greater, nat_cmp}
use Rattle.std.proofs.lemmas.Cmp.{nat_list_cmp_total}
use Rattle.std.proofs.lemmas.List.{append_assoc, append-nil}
use Rattle.std.specs.declared.cmp.Ordering.{Ordering}
use Rattle.std.specs.Cmp.Lexicographic.{slice_cmp}
use Rattle.std.specs.List.{AllByRecursion}
use Rattle.std.specs.List.Sorted.{IsStrictlySortedBy}
use Rattle.std.specs.Ordering.{ordering_reverse}
use Rattle.schema_values.proofs.CallerLemmas.{Below, below_all, all-push, all_inserted}
use Rattle.schema_values.specs.Sound.{AreDistinct}
use Rattle.typed_values.specs.Fits.{is_less, are_ascending}
use Rattle.schema_values.specs.Order.{at_place, inserted_by, sorted_by}
use Rattle.descriptors.proofs.CallerLemmas.{same_text}

-- each name is below all behind it
abbrev pub Ascends : List (List ℕ) → Type 0
Ascends = IsStrictlySortedBy (slice_cmp nat_cmp)

above : (name other : List ℕ) → Below other name → slice_cmp nat_cmp name other ≡ Greater
above name other less = nat_list_cmp_total.antisymm name other ∙ ap ordering_reverse less

below : (name other : List ℕ) → slice_cmp nat_cmp name other ≡ Greater → Below other name
below name other greater = nat_list_cmp_total.antisymm other name ∙ ap ordering_reverse greater

module _ {X : Type 0} (key : X → List ℕ) where
  -- all of some names are below a name
  abbrev AllBelow : List X → X → Type 0
  AllBelow xs x = AllByRecursion (λ y. Below (key y) (key x)) xs

  inserted_last : (x : X) (xs : List X) → AllBelow xs x → inserted_by key x xs ≡ xs ++ x ∷ []
  inserted_last x [] h = refl
  inserted_last x (y ∷ ys) h =
      ap (λ (o : Ordering). at_place o x y ys (inserted_by key x ys)) (above (key x) (key y) h.0)
      ∙ ap (λ (zs : List X). y ∷ zs) (inserted_last x ys h.1)

  keys_all : (P : List ℕ → Type 0) (xs : List X) → AllByRecursion (λ y. P (key y)) xs → AllByRecursion P (map key xs)
  keys_all P [] h = tt
  keys_all P (x ∷ xs) h = (h.0, keys_all P xs h.1)

  all_keys : (P : List ℕ → Type 0) (xs : List X) → AllByRecursion P (map key xs) → AllByRecursion (λ y. P (key y)) xs
  all_keys P [] h = tt
  all_keys P (x ∷ xs) h = (h.0, all_keys P xs h.1)

  rest_below : (x : X) (xs done : List X) → AllByRecursion (λ y. AllBelow done y) (x ∷ xs) → AllByRecursion (λ y. Below (key x) (key y)) xs → AllByRecursion (λ y. AllBelow (done ++ x ∷ []) y) xs
  rest_below x [] done h b = tt
  rest_below x (y ∷ ys) done h b = (all-push (λ z. Below (key z) (key y)) done x h.1.0 b.0, rest_below x ys done (h.0, h.1.1) b.1)

  ascending_after : (done xs : List X) → AllByRecursion (λ y. AllBelow done y) xs → Ascends (map key xs) → fold (λ sorted x. inserted_by key x sorted) done xs ≡ done ++ xs
  unfolding IsStrictlySortedBy
  ascending_after done [] h s = sym (append-nil done)
  ascending_after done (x ∷ xs) h s =
      ap (λ (ys : List X). fold (λ sorted x. inserted_by key x sorted) ys xs) (inserted_last x done h.0)
      ∙ ascending_after (done ++ x ∷ []) xs (rest_below x xs done h (all_keys (Below (key x)) xs s.0)) s.1
      ∙ append_assoc done (x ∷ []) xs

  none_below : (xs : List X) → AllByRecursion (λ y. AllBelow [] y) xs
  none_below [] = tt
  none_below (x ∷ xs) = (tt, none_below xs)

  -- what ascends is in order
  pub sorted_stays : (xs : List X) → Ascends (map key xs) → sorted_by key xs ≡ xs
  sorted_stays xs s = ascending_after [] xs (none_below xs) s

  placed_ascends : (o : Ordering) (x y : X) (ys later : List X) → slice_cmp nat_cmp (key x) (key y) ≡ o → key x ≢ key y → Ascends (map key (y ∷ ys))
      → (Below (key y) (key x) → AllByRecursion (λ z. Below (key y) (key z)) later) → Ascends (map key later) → Ascends (map key (at_place o x y ys later))
  unfolding IsStrictlySortedBy
  placed_ascends Less x y ys later e other s behind t = ((e, below_all (key x) (key y) (map key ys) e s.0), s)
  placed_ascends Equal x y ys later e other s behind t = absurd (other (same_text (key x) (key y) e))
  placed_ascends Greater x y ys later e other s behind t = (keys_all (Below (key y)) later (behind (below (key x) (key y) e)), t)

  inserted_ascends : (x : X) (ys : List X) → Ascends (map key ys) → AllByRecursion (λ y. key x ≢ key y) ys → Ascends (map key (inserted_by key x ys))
  unfolding IsStrictlySortedBy
  inserted_ascends x [] s h = (tt, tt)
  inserted_ascends x (y ∷ ys) s h =
      placed_ascends (slice_cmp nat_cmp (key x) (key y)) x y ys (inserted_by key x ys) refl h.0 s
      (λ less. all_inserted (λ z. Below (key y) (key z)) key x ys less (all_keys (Below (key y)) ys s.0))
      (inserted_ascends x ys s.1 h.1)

  apart_from : (x : X) (done xs : List X) → AllByRecursion (λ z. AllByRecursion (λ y. key z ≢ key y) done) xs → AllByRecursion (λ z. key x ≢ key z) xs → AllByRecursion (λ z. AllByRecursion (λ y. key z ≢ key y) (inserted_by key x done)) xs
  apart_from x done [] h other = tt
  apart_from x done (z ∷ zs) h other = (all_inserted (λ y. key z ≢ key y) key x done (λ e. other.0 (sym e)) h.0, apart_from x done zs h.1 other.1)

  ascends_from : (done xs : List X) → Ascends (map key done) → AllByRecursion (λ z. AllByRecursion (λ y. key z ≢ key y) done) xs → AreDistinct (map key xs) → Ascends (map key (fold (λ sorted x. inserted_by key x sorted) done xs))
  ascends_from done [] s h d = s
  ascends_from done (x ∷ xs) s h d =
      ascends_from (inserted_by key x done) xs (inserted_ascends x done s h.0) (apart_from x done xs h.1 (all_keys (λ other. key x ≢ other) xs d.0)) d.1

  none_apart : (xs : List X) → AllByRecursion (λ z. AllByRecursion (λ y. key z ≢ key y) []) xs
  none_apart [] = tt
  none_apart (x ∷ xs) = (tt, none_apart xs)

  -- names that are distinct ascend once they are in order
  pub sorted_ascends : (xs : List X) → AreDistinct (map key xs) → Ascends (map key (sorted_by key xs))
  unfolding IsStrictlySortedBy
  sorted_ascends xs d = ascends_from [] xs tt (none_apart xs) d

-- the test that keys ascend passes where they do
pub ascending_told : (keys : List (List ℕ)) → Ascends keys → are_ascending keys ≡ true
unfolding IsStrictlySortedBy
ascending_told [] s = refl
ascending_told (key ∷ []) s = refl
ascending_told (key ∷ other ∷ keys) s = ap (λ (o : Ordering). is_less o && are_ascending (other ∷ keys)) s.0.0 ∙ ascending_told (other ∷ keys) s.1
