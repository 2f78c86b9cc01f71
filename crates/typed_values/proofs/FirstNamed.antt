-- Looking up a name, and the least name that is denied, in a list and in the order of its names.
use Rattle.std.proofs.Common.{◌≡◌, ℕ, ◌+◌, ◌<◌, Bool, true, false, not, List, [], ◌∷◌, map, length, get_or, drop, Option, Some, None, is_some, option_map, bytes_eq, filter, fold, cond, inl, inr, refl, sym, ◌∙◌, ap, Less, Equal, Greater, nat_cmp, is_lt}
use Rattle.std.proofs.lemmas.Bool.{cases_Bool, cond-true, cond-false}
use Rattle.std.proofs.lemmas.Cmp.{nat_list_cmp_total, tied_itself}
use Rattle.std.proofs.lemmas.List.{drop_more}
use Rattle.std.proofs.lemmas.List.Sorted.{ranks_by}
use Rattle.std.proofs.lemmas.Slice.Eq.{bytes_eq-Decides}
use Rattle.std.specs.Cmp.Lexicographic.{slice_cmp}
use Rattle.std.specs.declared.cmp.Ordering.{Ordering}
use Rattle.std.specs.List.{AllByRecursion, find}
use Rattle.std.specs.List.Sorted.{IsSortedByKey}
use Rattle.std.specs.Ordering.{ordering_reverse}
use Rattle.schema_values.specs.declared.json_value.Member.{Member}
use Rattle.schema_values.specs.Member.{name_of}
use Rattle.descriptors.specs.declared.desc.Field.{Field}
use Rattle.descriptors.specs.Definitions.{field_name}
use Rattle.typed_values.specs.Denotes.{value_named, is_declared, lesser, least_with, least_name, denied_name, member_name}
use Rattle.schema_values.specs.Order.{at_place, inserted_by, sorted_by}
use Rattle.typed_values.specs.Order.{first_by}
use Rattle.descriptors.proofs.CallerLemmas.{other_name, same_text}
use Rattle.schema_values.proofs.CallerLemmas.{map_sorted, less, kept_sorted, none_before_at}

-- ---- the first of a name

find_kept : {X : Type 0} (p : X → Bool) (xs : List X) → find p (filter p xs) ≡ find p xs
find_kept p [] = refl
find_kept p (x ∷ xs) = by (p x) refl (find_kept p xs)
  where
    by : (b : Bool) → p x ≡ b → find p (filter p xs) ≡ find p xs → find p (cond b (x ∷ filter p xs) (filter p xs)) ≡ cond b (Some x) (find p xs)
    by true e later = cond-true _ _ _ e
    by false e later = later

module _ {X : Type 0} (key : X → List ℕ) where
  one_name : (name : List ℕ) (x y : X) → bytes_eq (key x) name ≡ true → less key x y ≡ true → bytes_eq (key y) name ≡ false
  one_name name x y e low = other_name (key y) name (λ same.
      let both : key y ≡ key x = same ∙ sym ((bytes_eq-Decides (key x) name).0 e) in
      let is_not : less key x y ≡ false = ap (λ (k : List ℕ). is_lt (slice_cmp nat_cmp (key x) k)) both ∙ ap is_lt (tied_itself nat_list_cmp_total (key x)) in
      absurd (cc (low, is_not)))

  -- the first of a name comes first in order too
  pub first_sorted : (xs : List X) (name : List ℕ) → first_by key (sorted_by key xs) name ≡ first_by key xs name
  first_sorted xs name =
      let p : X → Bool = λ x. bytes_eq (key x) name in
      sym (find_kept p (sorted_by key xs)) ∙ ap (find p) (kept_sorted key p (one_name name) xs) ∙ find_kept p xs

-- the value of a name is that of its first member
pub value_of_first : (ms : List Member) (name : List ℕ) → value_named ms name ≡ option_map (λ m. m.value) (first_by name_of ms name)
value_of_first [] name = refl
value_of_first (m ∷ ms) name = by (bytes_eq m.name name) (value_of_first ms name)
  where
    by : (b : Bool) → value_named ms name ≡ option_map (λ m. m.value) (first_by name_of ms name)
        → cond b (Some m.value) (value_named ms name) ≡ option_map (λ m. m.value) (cond b (Some m) (first_by name_of ms name))
    by true e = refl
    by false e = e

declared_by_first : (fs : List Field) (name : List ℕ) → is_declared fs name ≡ is_some (first_by field_name fs name)
declared_by_first [] name = refl
declared_by_first (f ∷ fs) name = by (bytes_eq f.name name) (declared_by_first fs name)
  where
    by : (b : Bool) → is_declared fs name ≡ is_some (first_by field_name fs name) → cond b true (is_declared fs name) ≡ is_some (cond b (Some f) (first_by field_name fs name))
    by true e = refl
    by false e = e

some_behind : {X Y : Type 0} (f : Y → X) (o : Option Y) → is_some (option_map f o) ≡ is_some o
some_behind f None = refl
some_behind f (Some y) = refl

-- a name is declared where a field of it is found among the fields in the order of their names
pub declared_by_found : {Y : Type 0} (f : Y → Field) (fs : List Field) (name : List ℕ) (o : Option Y) → option_map f o ≡ first_by field_name (sorted_by field_name fs) name → is_some o ≡ is_declared fs name
declared_by_found f fs name o found = sym (some_behind f o) ∙ ap is_some (found ∙ first_sorted field_name fs name) ∙ sym (declared_by_first fs name)

-- ---- the least name that is denied

abbrev before : List ℕ → List ℕ → Bool
before a b = is_lt (slice_cmp nat_cmp a b)

abbrev least : List ℕ → List ℕ → List ℕ
least a b = lesser (slice_cmp nat_cmp a b) a b

least_by : (o : Ordering) (a b : List ℕ) → slice_cmp nat_cmp a b ≡ o → lesser o a b ≡ lesser (ordering_reverse o) b a
least_by Less a b e = refl
least_by Equal a b e = same_text a b e
least_by Greater a b e = refl

least_swapped : (a b : List ℕ) → least a b ≡ least b a
least_swapped a b = least_by (slice_cmp nat_cmp a b) a b refl ∙ ap (λ (o : Ordering). lesser o b a) (sym (nat_list_cmp_total.antisymm b a))

before_wins : (o : Ordering) (a b : List ℕ) → is_lt o ≡ true → lesser o a b ≡ a
before_wins Less a b h = refl
before_wins Equal a b h = absurd (cc h)
before_wins Greater a b h = absurd (cc h)

-- the first is the lesser, where the second is not before it
first_wins : (a b : List ℕ) → before b a ≡ false → least a b ≡ a
first_wins a b h = by (slice_cmp nat_cmp a b) (ap is_lt (sym (nat_list_cmp_total.antisymm b a)) ∙ h)
  where
    by : (o : Ordering) → is_lt (ordering_reverse o) ≡ false → lesser o a b ≡ a
    by Less e = refl
    by Equal e = refl
    by Greater e = absurd (cc e)

last_wins : (a b : List ℕ) → before b a ≡ true → least a b ≡ b
last_wins a b h = least_swapped a b ∙ before_wins (slice_cmp nat_cmp b a) b a h

between : (a b c : List ℕ) → before c b ≡ true → before c a ≡ false → before a b ≡ true
between a b c low high = elim (cases_Bool (before a b)) [
  | inl is ↦ is
  | inr is_not ↦ let far : before c b ≡ false = (ranks_by nat_list_cmp_total (λ (k : List ℕ). k)).chain c a b high is_not in absurd (cc (low, far))
]

-- which of two names comes first makes no difference to the least
least_either : (a b : List ℕ) (o : Option (List ℕ)) → least_with a (least_with b o) ≡ least_with b (least_with a o)
least_either a b None = ap (λ (n : List ℕ). Some n) (least_swapped a b)
least_either a b (Some c) = ap (λ (n : List ℕ). Some n) (elim (cases_Bool (before c a)) [
  | inl low ↦ elim (cases_Bool (before c b)) [
    | inl down ↦ ap (least a) (last_wins b c down) ∙ last_wins a c low ∙ sym (ap (least b) (last_wins a c low) ∙ last_wins b c down)
    | inr up ↦ ap (least a) (first_wins b c up) ∙ last_wins a b (between b a c low up) ∙ sym (ap (least b) (last_wins a c low) ∙ first_wins b c up)
  ]
  | inr high ↦ elim (cases_Bool (before c b)) [
    | inl down ↦ ap (least a) (last_wins b c down) ∙ first_wins a c high ∙ sym (ap (least b) (first_wins a c high) ∙ last_wins b a (between a b c down high))
    | inr up ↦ ap (least a) (first_wins b c up) ∙ least_swapped a b ∙ sym (ap (least b) (first_wins a c high))
  ]
])

module _ (q : List ℕ → Bool) where
  -- the least of the names that pass
  abbrev lowest : List (List ℕ) → Option (List ℕ)
  lowest ns = least_name (filter q ns)

  abbrev with : List ℕ → Option (List ℕ) → Option (List ℕ)
  with n o = cond (q n) (least_with n o) o

  with_more : (n : List ℕ) (ns : List (List ℕ)) → lowest (n ∷ ns) ≡ with n (lowest ns)
  with_more n ns = by (q n)
    where
      by : (b : Bool) → least_name (cond b (n ∷ filter q ns) (filter q ns)) ≡ cond b (least_with n (lowest ns)) (lowest ns)
      by true = refl
      by false = refl

  with_either : (a b : List ℕ) (o : Option (List ℕ)) → with a (with b o) ≡ with b (with a o)
  with_either a b o = by (q a) (q b)
    where
      by : (c d : Bool) → cond c (least_with a (cond d (least_with b o) o)) (cond d (least_with b o) o) ≡ cond d (least_with b (cond c (least_with a o) o)) (cond c (least_with a o) o)
      by true true = least_either a b o
      by true false = refl
      by false true = refl
      by false false = refl

  lowest_placed : (o : Ordering) (n m : List ℕ) (ms later : List (List ℕ)) → lowest later ≡ with n (lowest ms) → lowest (at_place o n m ms later) ≡ with n (lowest (m ∷ ms))
  lowest_placed Less n m ms later e = with_more n (m ∷ ms)
  lowest_placed Equal n m ms later e = with_more m later ∙ ap (with m) e ∙ with_either m n (lowest ms) ∙ ap (with n) (sym (with_more m ms))
  lowest_placed Greater n m ms later e = with_more m later ∙ ap (with m) e ∙ with_either m n (lowest ms) ∙ ap (with n) (sym (with_more m ms))

  lowest_inserted : (n : List ℕ) (ns : List (List ℕ)) → lowest (inserted_by (λ k. k) n ns) ≡ with n (lowest ns)
  lowest_inserted n [] = with_more n []
  lowest_inserted n (m ∷ ms) = lowest_placed (slice_cmp nat_cmp n m) n m ms (inserted_by (λ k. k) n ms) (lowest_inserted n ms)

  abbrev with_all : List (List ℕ) → Option (List ℕ) → Option (List ℕ)
  with_all [] o = o
  with_all (n ∷ ns) o = with n (with_all ns o)

  with_sooner : (n : List ℕ) (ns : List (List ℕ)) (o : Option (List ℕ)) → with_all ns (with n o) ≡ with n (with_all ns o)
  with_sooner n [] o = refl
  with_sooner n (m ∷ ms) o = ap (with m) (with_sooner n ms o) ∙ with_either m n (with_all ms o)

  lowest_after : (done ns : List (List ℕ)) → lowest (fold (λ sorted n. inserted_by (λ k. k) n sorted) done ns) ≡ with_all ns (lowest done)
  lowest_after done [] = refl
  lowest_after done (n ∷ ns) = lowest_after (inserted_by (λ k. k) n done) ns ∙ ap (with_all ns) (lowest_inserted n done) ∙ with_sooner n ns (lowest done)

  lowest_all : (ns : List (List ℕ)) → lowest ns ≡ with_all ns None
  lowest_all [] = refl
  lowest_all (n ∷ ns) = with_more n ns ∙ ap (with n) (lowest_all ns)

  lowest_sorted : (ns : List (List ℕ)) → lowest (sorted_by (λ k. k) ns) ≡ lowest ns
  lowest_sorted ns = lowest_after [] ns ∙ sym (lowest_all ns)

  -- a name that none is before
  lowest_first : (n : List ℕ) (ms : List Member) → AllByRecursion (λ m. before (name_of m) n ≡ false) ms → least_with n (lowest (map member_name ms)) ≡ Some n
  lowest_first n [] h = refl
  lowest_first n (m ∷ ms) h = ap (least_with n) (with_more m.name (map member_name ms)) ∙ by (q m.name) (lowest_first n ms h.1)
    where
      by : (b : Bool) → least_with n (lowest (map member_name ms)) ≡ Some n → least_with n (cond b (least_with m.name (lowest (map member_name ms))) (lowest (map member_name ms))) ≡ Some n
      by true e = least_either n m.name (lowest (map member_name ms)) ∙ ap (least_with m.name) e ∙ ap (λ (k : List ℕ). Some k) (least_swapped m.name n ∙ first_wins n m.name h.0)
      by false e = e

module _ (fs : List Field) where
  abbrev unknown : List ℕ → Bool
  unknown name = not (is_declared fs name)

  -- the order of members makes no difference to what is denied
  pub denied_sorted : (ms : List Member) → denied_name true fs (sorted_by member_name ms) ≡ denied_name true fs ms
  denied_sorted ms =
      ap (λ (ns : List (List ℕ)). least_name (filter unknown ns)) (map_sorted member_name (λ k. k) member_name (λ m. refl) ms)
      ∙ lowest_sorted unknown (map member_name ms)

  module _ (ms : List Member) (i : ℕ) (m : Member) (low : i < length ms) (is : m ≡ get_or ms i m) where
    behind : denied_name true fs (drop i ms) ≡ with unknown m.name (denied_name true fs (drop (i + 1) ms))
    behind =
        ap (denied_name true fs) (drop_more ms i m low ∙ ap (λ (x : Member). x ∷ drop (i + 1) ms) (sym is))
        ∙ with_more unknown m.name (map member_name (drop (i + 1) ms))

    -- a member that is declared is not denied
    pub denied_behind : is_declared fs m.name ≡ true → denied_name true fs (drop i ms) ≡ denied_name true fs (drop (i + 1) ms)
    denied_behind known = behind ∙ cond-false _ _ _ (ap not known)

    -- the first that is not declared is the least, among members in the order of their names
    pub denied_here : IsSortedByKey name_of (slice_cmp nat_cmp) ms → is_declared fs m.name ≡ false → denied_name true fs (drop i ms) ≡ Some m.name
    denied_here sorted other =
        behind ∙ cond-true _ _ _ (ap not other)
        ∙ lowest_first unknown m.name (drop (i + 1) ms) (none_before_at name_of ms sorted i m low is)
