-- The index of a table: what a search in it finds, and that a definition's place goes in where its name does.
use Rattle.std.proofs.Common.{◌≡◌, ◌≢◌, ℕ, zero, suc, ◌<◌, ◌≤◌, List, [], ◌∷◌, ◌++◌, length, map, Some, None, Less, Greater, nat_cmp, refl, sym, ◌∙◌, ap, ap₂, subst, arith, add-one, get_or, ⊎_elim}
use Rattle.std.proofs.lemmas.Bool.{cases_lt}
use Rattle.std.proofs.lemmas.Cmp.{nat_list_cmp_total}
use Rattle.std.proofs.lemmas.List.{get_or_append_left, get_or_past, get_or_push, length-append, length-map, map-append}
use Rattle.std.proofs.lemmas.List.Elements.{All-cons, All-weaker, Contains-get_or}
use Rattle.std.proofs.lemmas.List.Sorted.{All-permutation, Contains-permutation, IsPermutation-insert, searchable_from_sorted}
use Rattle.std.specs.Prelude.{Contains}
use Rattle.std.specs.Cmp.Lexicographic.{slice_cmp}
use Rattle.std.specs.List.{All, AllByRecursion, AllWithin, insert}
use Rattle.std.specs.List.Sorted.{IsNonDecreasingBy, IsPermutation, IsStrictlySortedBy}
use Rattle.std.specs.Ordering.{ordering_index, ordering_reverse}
use Rattle.schema_values.specs.Sound.{AreDistinct}
use Rattle.descriptors.specs.declared.table.Definition.{Definition}
use Rattle.descriptors.specs.Definitions.{definition_name, entry_of}
use Rattle.descriptors.specs.Index.{name_at, IsIndex, IsTable, IsGapFor}
use Rattle.descriptors.proofs.Found.{other_name, same_name, all_names, distinct_more}
use Rattle.schema_values.proofs.CallerLemmas.{contains_first, contains_later}
use Rattle.descriptors.proofs.NameOrder.{apart, not_below}

-- ---- what a search finds

sorted_next : (key : ℕ → List ℕ) (ps : List ℕ) → IsStrictlySortedBy (slice_cmp nat_cmp) (map key ps) → (k d : ℕ) → suc k < length ps → slice_cmp nat_cmp (key (get_or ps k d)) (key (get_or ps (suc k) d)) ≡ Less
unfolding IsStrictlySortedBy
sorted_next key [] s k d h = absurd (omega (arith, h))
sorted_next key (p ∷ []) s k d h = absurd (omega (arith, h))
sorted_next key (p ∷ q ∷ ps) s zero d h = s.0.0
sorted_next key (p ∷ q ∷ ps) s (suc k) d h = sorted_next key (q ∷ ps) s.1 k d (omega (arith, h))

-- what a search by halves asks
pub searchable_places : (es : List Definition) (ps : List ℕ) (name : List ℕ) → IsIndex es ps → IsNonDecreasingBy (λ p. ordering_index (slice_cmp nat_cmp (name_at es p) name)) ps
searchable_places es ps name index =
    searchable_from_sorted nat_list_cmp_total (name_at es) ps name
    (λ k d low less. rw add-one (not_below (name_at es (get_or ps k d)) (name_at es (get_or ps (suc k) d)) (sorted_next (name_at es) ps index.ascending k d (omega (arith, less)))))

pub name_at_is : (es : List Definition) (place : ℕ) (d : Definition) → place < length es → name_at es place ≡ definition_name (get_or es place d)
name_at_is [] place d h = absurd (omega (arith, h))
name_at_is (e ∷ es) zero d h = refl
name_at_is (e ∷ es) (suc place) d h = name_at_is es place d (omega (arith, h))

pub name_past : (es : List Definition) (place : ℕ) → length es ≤ place → name_at es place ≡ []
name_past es place h = get_or_past (map definition_name es) place [] (omega (arith, h, length-map es definition_name))

pub entry_at : (es : List Definition) (name : List ℕ) (place : ℕ) (d : Definition) → AreDistinct (map definition_name es) → place < length es → definition_name (get_or es place d) ≡ name → entry_of es name ≡ Some (get_or es place d)
entry_at [] name place d once h q = absurd (omega (arith, h))
entry_at (e ∷ es) name zero d once h q = rw (q, same_name name) refl
entry_at (e ∷ es) name (suc place) d once h q =
    let less : place < length es = omega (arith, h) in
    rw (other_name e.name name (λ s. all_names e.name es (get_or es place d) once.0 (Contains-get_or es place d less) (s ∙ sym q))) (entry_at es name place d once.1 less q)

no_entry : (es : List Definition) (name : List ℕ) → ((k : ℕ) → k < length es → name_at es k ≢ name) → entry_of es name ≡ None
no_entry [] name h = refl
no_entry (e ∷ es) name h = rw (other_name e.name name (h 0 (omega arith))) (no_entry es name (λ k less. h (suc k) (omega (arith, less))))

-- where a name has a gap, it is not defined
pub absent_entry : (es : List Definition) (ps : List ℕ) (name : List ℕ) (gap : ℕ) → IsIndex es ps → IsGapFor es ps name gap → entry_of es name ≡ None
absent_entry es ps name gap index h =
    no_entry es name
    (λ k less.
    let (j, inside, is) = index.complete k less in
    let key = λ (p : ℕ). slice_cmp nat_cmp (name_at es p) name in
    ⊎_elim (λ l. apart (name_at es k) name (λ e. let o : key k ≡ Less = ap key (sym is) ∙ h.1.0 j k (omega arith) l in absurd (cc (e, o))))
    (λ l. apart (name_at es k) name (λ e. let o : key k ≡ Greater = ap key (sym is) ∙ h.1.1 j k l inside in absurd (cc (e, o))))
    (cases_lt j gap))

-- ---- one more place

all_inserted : (Q : List ℕ → Type 0) (key : ℕ → List ℕ) (ps : List ℕ) (gap n : ℕ) → Q (key n) → AllByRecursion Q (map key ps) → AllByRecursion Q (map key (insert ps gap n))
all_inserted Q key [] zero n here all = (here, tt)
all_inserted Q key [] (suc gap) n here all = (here, tt)
all_inserted Q key (p ∷ ps) zero n here all = (here, all)
all_inserted Q key (p ∷ ps) (suc gap) n here all = (all.0, all_inserted Q key ps gap n here all.1)

all_above : (key : ℕ → List ℕ) (ps : List ℕ) (n : ℕ) → AllWithin (λ p. slice_cmp nat_cmp (key n) (key p) ≡ Less) ps 0 (length ps) → AllByRecursion (λ name. slice_cmp nat_cmp (key n) name ≡ Less) (map key ps)
all_above key [] n h = tt
all_above key (p ∷ ps) n h = (h 0 p (omega arith) (omega arith), all_above key ps n (λ k d low less. h (suc k) d (omega arith) (omega (arith, less))))

sorted_inserted : (key : ℕ → List ℕ) (ps : List ℕ) (gap n : ℕ) → IsStrictlySortedBy (slice_cmp nat_cmp) (map key ps) → AllWithin (λ p. slice_cmp nat_cmp (key p) (key n) ≡ Less) ps 0 gap
    → AllWithin (λ p. slice_cmp nat_cmp (key n) (key p) ≡ Less) ps gap (length ps) → IsStrictlySortedBy (slice_cmp nat_cmp) (map key (insert ps gap n))
unfolding IsStrictlySortedBy
sorted_inserted key [] zero n s below above = (tt, tt)
sorted_inserted key [] (suc gap) n s below above = (tt, tt)
sorted_inserted key (p ∷ ps) zero n s below above = (all_above key (p ∷ ps) n above, s)
sorted_inserted key (p ∷ ps) (suc gap) n s below above = (
  all_inserted (λ name. slice_cmp nat_cmp (key p) name ≡ Less) key ps gap n (below 0 p (omega arith) (omega arith)) s.0,
  sorted_inserted key ps gap n s.1 (λ k d low less. below (suc k) d (omega arith) (omega (arith, less))) (λ k d low less. above (suc k) d (omega (arith, low)) (omega (arith, less))),
)

module _ (es : List Definition) (e : Definition) where
  same_key : (p : ℕ) → p < length es → name_at (es ++ e ∷ []) p ≡ name_at es p
  same_key p h =
      ap (λ (names : List (List ℕ)). get_or names p []) (map-append definition_name es (e ∷ []))
      ∙ get_or_append_left (map definition_name es) (e.name ∷ []) [] p (omega (arith, h, length-map es definition_name))

  last_key : name_at (es ++ e ∷ []) (length es) ≡ e.name
  last_key =
      ap (λ (names : List (List ℕ)). get_or names (length es) []) (map-append definition_name es (e ∷ []))
      ∙ get_or_push (map definition_name es) e.name [] (length es) (length-map es definition_name)

  same_keys : (ps : List ℕ) → All (λ p. p < length es) ps → map (name_at (es ++ e ∷ [])) ps ≡ map (name_at es) ps
  same_keys [] h = refl
  same_keys (p ∷ ps) h =
      ap₂ (λ (name : List ℕ) (names : List (List ℕ)). name ∷ names) (same_key p (h 0 p (omega arith))) (same_keys ps (λ k d less. h (suc k) d (omega (arith, less))))

  length_more : length (es ++ e ∷ []) ≡ suc (length es)
  length_more = omega (arith, length-append es (e ∷ []))

  module _ (ps : List ℕ) (gap : ℕ) (index : IsIndex es ps) (h : IsGapFor es ps e.name gap) where
    moved : IsPermutation (length es ∷ ps) (insert ps gap (length es))
    moved = IsPermutation-insert ps gap (length es)

    all_within : All (λ p. p < length (es ++ e ∷ [])) (insert ps gap (length es))
    all_within =
        All-permutation (λ p. p < length (es ++ e ∷ [])) (length es ∷ ps) (insert ps gap (length es)) moved
        (All-cons (λ p. p < length (es ++ e ∷ [])) (length es) ps (omega (arith, length_more))
        (All-weaker (λ p. p < length es) (λ p. p < length (es ++ e ∷ [])) (λ p less. omega (arith, less, length_more)) ps index.within))

    all_there : (k : ℕ) → k < length (es ++ e ∷ []) → Contains (insert ps gap (length es)) k
    all_there k less =
        Contains-permutation (length es ∷ ps) (insert ps gap (length es)) k moved
        (⊎_elim (λ l. contains_later (length es) ps k (index.complete k l))
        (λ l. let last : length es ≡ k = omega (arith, l, less, length_more) in subst (λ (p : ℕ). Contains (length es ∷ ps) p) last (contains_first (length es) ps))
        (cases_lt k (length es)))

    in_order : IsStrictlySortedBy (slice_cmp nat_cmp) (map (name_at (es ++ e ∷ [])) (insert ps gap (length es)))
    in_order =
        sorted_inserted (name_at (es ++ e ∷ [])) ps gap (length es)
        (subst (IsStrictlySortedBy (slice_cmp nat_cmp)) (sym (same_keys ps index.within)) index.ascending)
        (λ k d low less. ap₂ (slice_cmp nat_cmp) (same_key (get_or ps k d) (index.within k d (omega (arith, less, h.0)))) last_key ∙ h.1.0 k d low less)
        (λ k d low less.
        ap₂ (slice_cmp nat_cmp) last_key (same_key (get_or ps k d) (index.within k d less))
        ∙ nat_list_cmp_total.antisymm e.name (name_at es (get_or ps k d)) ∙ ap ordering_reverse (h.1.1 k d low less))

    -- a definition of a new name goes behind the others, and its place into the gap
    pub table_more : AreDistinct (map definition_name es) → IsTable (es ++ e ∷ []) (insert ps gap (length es))
    table_more once = record {
      distinct = distinct_more es e once (absent_entry es ps e.name gap index h);
      index = record { within = all_within; complete = all_there; ascending = in_order };
    }

pub no_table : IsTable [] []
unfolding IsStrictlySortedBy
no_table = record {
  distinct = tt;
  index = record { within = λ k d less. absurd (omega (arith, less)); complete = λ place less. absurd (omega (arith, less)); ascending = tt };
}
