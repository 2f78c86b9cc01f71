-- Entries of maps and their pairs: both ascend, and a last one is inserted behind them.
use Rattle.std.proofs.Common.{◌≡◌, ℕ, zero, suc, ◌+◌, ◌<◌, true, List, [], ◌∷◌, ◌++◌, length, map, take, get_or, refl, sym, ◌∙◌, ap, ap₂, subst, arith, nat_cmp}
use Rattle.std.proofs.lemmas.List.{map-append, take_more}
use Rattle.std.specs.Cmp.Lexicographic.{slice_cmp}
use Rattle.std.specs.List.{AllByRecursion}
use Rattle.std.specs.List.Sorted.{IsStrictlySortedBy}
use Rattle.std.specs.BTreeMap.{insert_entry}
use Rattle.std.specs.Map.{keys_of}
use Rattle.schema_values.proofs.CallerLemmas.{IsBelow, inserted_last}
use Rattle.descriptors.specs.declared.tree.Pair.{Pair}
use Rattle.descriptors.specs.declared.tree.Tree.{Tree}
use Rattle.typed_values.specs.Denotes.{pair}
use Rattle.typed_values.specs.Fits.{are_ascending, key_of}
use Rattle.api_types.specs.Maps.{pair_of}

abbrev pub Sorted : List (List ℕ) → Type 0
Sorted = IsStrictlySortedBy (slice_cmp nat_cmp)

pub ascending_of : (keys : List (List ℕ)) → Sorted keys → are_ascending keys ≡ true
unfolding IsStrictlySortedBy
ascending_of [] s = refl
ascending_of (key ∷ []) s = refl
ascending_of (key ∷ other ∷ keys) s = rw s.0.0 (ascending_of (other ∷ keys) s.1)

key_at : (P : List ℕ → Type 0) (ps : List Pair) (i : ℕ) (p : Pair) → AllByRecursion P (map key_of ps) → i < length ps → P (get_or ps i p).key
key_at P [] i p h less = absurd (omega (arith, less))
key_at P (q ∷ ps) zero p h less = h.0
key_at P (q ∷ ps) (suc i) p h less = key_at P ps i p h.1 (omega (arith, less))

-- those before a place are below the one there
all_before : (ps : List Pair) (i : ℕ) (p : Pair) → Sorted (map key_of ps) → i < length ps → AllByRecursion (λ q. IsBelow q.key (get_or ps i p).key) (take i ps)
unfolding IsStrictlySortedBy
all_before [] i p s less = absurd (omega (arith, less))
all_before (q ∷ ps) zero p s less = tt
all_before (q ∷ ps) (suc i) p s less = (key_at (IsBelow q.key) ps i p s.0 (omega (arith, less)), all_before ps i p s.1 (omega (arith, less)))

module _ {T : Type 0} (tree_of : T → Tree) where
  pub pair_keys : (es : List (List ℕ × T)) → map key_of (map (pair_of tree_of) es) ≡ keys_of es
  pair_keys [] = refl
  pair_keys (e ∷ es) = ap (λ (keys : List (List ℕ)). e.0 ∷ keys) (pair_keys es)

  entries_below : (key : List ℕ) (es : List (List ℕ × T)) → AllByRecursion (λ q. IsBelow q.key key) (map (pair_of tree_of) es) → AllByRecursion (λ e. IsBelow e.0 key) es
  entries_below key [] h = tt
  entries_below key (e ∷ es) h = (h.0, entries_below key es h.1)

  -- the pairs of a map that has those before a place, and then takes the one there
  pub next_pairs : (es : List (List ℕ × T)) (ps : List Pair) (i : ℕ) (p : Pair) (value : T) → Sorted (map key_of ps) → i < length ps → p ≡ get_or ps i p → map (pair_of tree_of) es ≡ take i ps → tree_of value ≡ p.value
      → map (pair_of tree_of) (insert_entry (slice_cmp nat_cmp) es p.key value) ≡ take (i + 1) ps
  next_pairs es ps i p value sorted less is same tree =
      let below = entries_below p.key es (subst (λ (qs : List Pair). AllByRecursion (λ q. IsBelow q.key p.key) qs) (sym same) (subst (λ (x : Pair). AllByRecursion (λ q. IsBelow q.key x.key) (take i ps)) (sym is) (all_before ps i p sorted less))) in
      ap (map (pair_of tree_of)) (inserted_last es p.key value below)
      ∙ map-append (pair_of tree_of) es ((p.key, value) ∷ [])
      ∙ ap₂ (λ (qs : List Pair) (t : Tree). qs ++ pair p.key t ∷ []) same tree
      ∙ ap (λ (x : Pair). take i ps ++ x ∷ []) is
      ∙ sym (take_more ps i p less)
