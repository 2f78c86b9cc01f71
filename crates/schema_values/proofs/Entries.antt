-- Entries of maps: those ahead of one have lesser keys, and a greatest one is inserted at the end.
use Rattle.std.proofs.Common.{◌≡◌, List, [], ◌∷◌, ◌++◌, ℕ, refl, sym, ◌∙◌, ap, subst, Less, Greater, nat_cmp}
use Rattle.std.proofs.lemmas.Cmp.{nat_list_cmp_total}
use Rattle.std.proofs.lemmas.List.{append_assoc}
use Rattle.std.specs.BTreeMap.{insert_entry}
use Rattle.std.specs.Cmp.Lexicographic.{slice_cmp}
use Rattle.std.specs.List.{AllByRecursion}
use Rattle.std.specs.List.Sorted.{IsStrictlySortedBy}
use Rattle.std.specs.Map.{keys_of}
use Rattle.std.specs.Ordering.{ordering_reverse}

abbrev pub IsBelow : List ℕ → List ℕ → Type 0
IsBelow key other = slice_cmp nat_cmp key other ≡ Less

module _ {T : Type 0} where
  key_there : (P : List ℕ → Type 0) (done : List (List ℕ × T)) (e : List ℕ × T) (left : List (List ℕ × T)) → AllByRecursion P (keys_of (done ++ e ∷ left)) → P e.0
  key_there P [] e left h = h.0
  key_there P (d ∷ ds) e left h = key_there P ds e left h.1

  all_below : (done : List (List ℕ × T)) (e : List ℕ × T) (left : List (List ℕ × T)) → IsStrictlySortedBy (slice_cmp nat_cmp) (keys_of (done ++ e ∷ left))
      → AllByRecursion (λ d. IsBelow d.0 e.0) done
  unfolding IsStrictlySortedBy
  all_below [] e left s = tt
  all_below (d ∷ ds) e left s = (key_there (IsBelow d.0) ds e left s.0, all_below ds e left s.1)

  pub inserted_last : (es : List (List ℕ × T)) (key : List ℕ) (value : T) → AllByRecursion (λ e. IsBelow e.0 key) es
      → insert_entry (slice_cmp nat_cmp) es key value ≡ es ++ (key, value) ∷ []
  inserted_last [] key value h = refl
  inserted_last (e ∷ es) key value h =
      let above : slice_cmp nat_cmp key e.0 ≡ Greater = nat_list_cmp_total.antisymm key e.0 ∙ ap ordering_reverse h.0 in
      rw above (ap (λ (rest : List (List ℕ × T)). e ∷ rest) (inserted_last es key value h.1))

  -- a map that has the entries ahead of one, and then takes that
  pub one_more : (all done rest : List (List ℕ × T)) (e : List ℕ × T) (left : List (List ℕ × T)) → all ≡ done ++ rest → rest ≡ e ∷ left → IsStrictlySortedBy (slice_cmp nat_cmp) (keys_of all)
      → all ≡ insert_entry (slice_cmp nat_cmp) done e.0 e.1 ++ left
  one_more all done rest e left split next sorted =
      let apart = split ∙ ap (λ es. done ++ es) next in
      let below = all_below done e left (subst (λ es. IsStrictlySortedBy (slice_cmp nat_cmp) (keys_of es)) apart sorted) in
      apart ∙ sym (append_assoc done (e ∷ []) left) ∙ ap (λ es. es ++ left) (sym (inserted_last done e.0 e.1 below))
