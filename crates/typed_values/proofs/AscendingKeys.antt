-- Keys that ascend: the keys of a map from a place on, and that each key is below all behind it.
use Rattle.std.proofs.Common.{◌≡◌, ℕ, zero, suc, ◌+◌, ◌-◌, ◌<◌, ◌≤◌, Bool, true, ◌&&◌, not, List, [], ◌∷◌, length, map, drop, get_or, Ordering, Less, Equal, Greater, nat_cmp, is_ge, refl, sym, ◌∙◌, ap, ap₂, arith}
use Rattle.std.proofs.lemmas.List.{drop_more}
use Rattle.std.proofs.lemmas.Bool.{and_parts}
use Rattle.std.specs.Cmp.Lexicographic.{slice_cmp}
use Rattle.std.specs.List.Sorted.{IsStrictlySortedBy}
use Rattle.schema_values.proofs.CallerLemmas.{Below, below_all}
use Rattle.descriptors.specs.declared.tree.Pair.{Pair}
use Rattle.typed_values.specs.Fits.{is_less, are_ascending, key_of}

not_ge : (o : Ordering) (b : Bool) → b ≡ is_ge o → is_less o ≡ not b
not_ge Less b e = rw e refl
not_ge Equal b e = rw e refl
not_ge Greater b e = rw e refl

abbrev pub ascend_from : List Pair → ℕ → Bool
ascend_from ps i = are_ascending (map key_of (drop i ps))

module _ (ps : List Pair) (i : ℕ) (p q : Pair) (some : 0 < i) (less : i < length ps) where
  from_two : drop (i - 1) ps ≡ get_or ps (i - 1) p ∷ get_or ps i q ∷ drop (i + 1) ps
  from_two =
      let there : i - 1 + 1 ≡ i = omega arith in
      drop_more ps (i - 1) p (omega arith)
      ∙ ap (λ (n : ℕ). get_or ps (i - 1) p ∷ drop n ps) there
      ∙ ap (λ (rs : List Pair). get_or ps (i - 1) p ∷ rs) (drop_more ps i q less)

  -- two keys, and those from the second on
  pub ascending_step : (b : Bool) → b ≡ is_ge (slice_cmp nat_cmp (get_or ps (i - 1) p).key (get_or ps i q).key) → ascend_from ps (i - 1) ≡ (not b && ascend_from ps i)
  ascending_step b e =
      ap (λ (rs : List Pair). are_ascending (map key_of rs)) from_two
      ∙ ap₂ (λ (c : Bool) (rs : List Pair). c && are_ascending (map key_of rs)) (not_ge (slice_cmp nat_cmp (get_or ps (i - 1) p).key (get_or ps i q).key) b e) (sym (drop_more ps i q less))

-- one key ascends
pub ascending_end : (ps : List Pair) (n : ℕ) → length ps ≤ suc n → ascend_from ps n ≡ true
ascending_end [] zero h = refl
ascending_end [] (suc n) h = refl
ascending_end (p ∷ []) zero h = refl
ascending_end (p ∷ q ∷ ps) zero h = absurd (omega (arith, h))
ascending_end (p ∷ ps) (suc n) h = ascending_end ps n (omega (arith, h))

less_is : (o : Ordering) → is_less o ≡ true → o ≡ Less
less_is Less e = refl
less_is Equal e = absurd (cc e)
less_is Greater e = absurd (cc e)

-- each key is below all behind it
pub keys_sorted : (keys : List (List ℕ)) → are_ascending keys ≡ true → IsStrictlySortedBy (slice_cmp nat_cmp) keys
unfolding IsStrictlySortedBy
keys_sorted [] e = tt
keys_sorted (key ∷ []) e = (tt, tt)
keys_sorted (key ∷ other ∷ keys) e =
    let (first, rest) = and_parts (is_less (slice_cmp nat_cmp key other)) (are_ascending (other ∷ keys)) e in
    let sorted = keys_sorted (other ∷ keys) rest in
    let less : Below key other = less_is (slice_cmp nat_cmp key other) first in
    ((less, below_all key other keys less sorted.0), sorted)
