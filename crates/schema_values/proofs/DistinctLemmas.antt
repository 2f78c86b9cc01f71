-- Names in ascending order are distinct.
use Rattle.std.proofs.Common.{◌≡◌, ◌≢◌, ℕ, suc, List, [], ◌∷◌, map, length, Less, Equal, nat_cmp, ap, ◌∙◌, add-one, arith}
use Rattle.std.proofs.lemmas.Cmp.{nat_list_cmp_total, tied_itself}
use Rattle.std.specs.Cmp.Lexicographic.{slice_cmp}
use Rattle.std.specs.List.{AllAdjacentBelow, AllByRecursion}
use Rattle.std.specs.List.Sorted.{IsStrictlySortedBy}
use Rattle.schema_values.specs.declared.json_value.Member.{Member}
use Rattle.schema_values.specs.AscendingMembers.{Precedes}
use Rattle.schema_values.specs.Member.{name_of}
use Rattle.schema_values.specs.Sound.{AreDistinct}

abbrev pub Below : List ℕ → List ℕ → Type 0
Below k l = slice_cmp nat_cmp k l ≡ Less

apart : (k l : List ℕ) → Below k l → k ≢ l
apart k l less e =
    let tied : slice_cmp nat_cmp k l ≡ Equal = ap (λ name. slice_cmp nat_cmp name l) e ∙ tied_itself nat_list_cmp_total l in
    absurd (cc)

new_name : (name : List ℕ) (others : List (List ℕ)) → AllByRecursion (Below name) others → AllByRecursion (λ other. name ≢ other) others
new_name name [] h = tt
new_name name (other ∷ others) h = (apart name other h.0, new_name name others h.1)

pub AreDistinct-sorted : (names : List (List ℕ)) → IsStrictlySortedBy (slice_cmp nat_cmp) names → AreDistinct names
unfolding IsStrictlySortedBy
AreDistinct-sorted [] h = tt
AreDistinct-sorted (name ∷ names) h = (new_name name names h.0, AreDistinct-sorted names h.1)

-- a name below another is below those that the other is below
pub below_all : (k l : List ℕ) (others : List (List ℕ)) → Below k l → AllByRecursion (Below l) others → AllByRecursion (Below k) others
below_all k l [] b h = tt
below_all k l (x ∷ others) b h = (nat_list_cmp_total.trans k l x b h.0, below_all k l others b h.1)

-- each name is below all behind it, where it is below the next
pub sorted_from_adjacent : (ms : List Member) → AllAdjacentBelow Precedes ms (length ms) → IsStrictlySortedBy (slice_cmp nat_cmp) (map name_of ms)
unfolding IsStrictlySortedBy
sorted_from_adjacent [] h = tt
sorted_from_adjacent (m ∷ []) h = (tt, tt)
sorted_from_adjacent (m ∷ n ∷ ms) h =
    let rest = sorted_from_adjacent (n ∷ ms) (λ k d less. let next = h (suc k) d (omega arith) in rw add-one (rw add-one at next)) in
    let first : Precedes m n = h 0 m (omega arith) in
    ((first, below_all (name_of m) (name_of n) (map name_of ms) first rest.0), rest)
