-- The map of a table, seen as pairs by the bytes of the keys.
use Rattle.std.proofs.Common.{◌≡◌, ◌∙◌, ℕ, zero, suc, List, [], ◌∷◌, ◌++◌, ◌&&◌, true, false, take, ap, refl, subst, sym, string_bytes, bytes_eq}
use Rattle.std.specs.Prelude.{if◌then◌else◌, Some}
use Rattle.std.specs.List.{AllByRecursion}
use Rattle.std.specs.List.Sorted.{IsStrictlySortedBy}
use Rattle.std.specs.declared.alloc.Global.{Global}
use Rattle.std.specs.declared.string.String.{String}
use Rattle.std.specs.declared.cmp.Ordering.TheVariants.{Less, Equal, Greater}
use Rattle.std.specs.declared.ops.Bound.TheVariants.{Excluded, Unbounded}
use Rattle.std.specs.Ordering.{is_eq, is_lt, nat_cmp, match_ordering, ordering_reverse}
use Rattle.std.specs.Cmp.Lexicographic.{slice_cmp}
use Rattle.std.specs.String.{string_cmp}
use Rattle.std.specs.Map.{keys_of, lookup, remove_entry}
use Rattle.std.specs.BTreeMap.{insert_entry, is_at}
use Rattle.std.specs.BTreeMap.Range.{entries_between}
use Rattle.std.proofs.lemmas.Cmp.{nat_list_cmp_total}
use Rattle.std.proofs.lemmas.List.{map-append}
use Rattle.std.proofs.lemmas.Map.Text.{is_eq-slice_cmp}
use Rattle.descriptors.specs.declared.tree.Tree.{Tree}
use Rattle.tree_store.specs.Tables.{Ascend, Pairs, pairs_above, pairs_with, pairs_without, tree_at}
use Rattle.tree_store.specs.TableView.{pairs_of_entries}

pub pairs_of_entries-insert_entry : (entries : List (String Global × Tree)) (key : String Global) (tree : Tree)
    → pairs_of_entries (insert_entry string_cmp entries key tree) ≡ pairs_with (string_bytes key) tree (pairs_of_entries entries)
pairs_of_entries-insert_entry [] key tree = refl
pairs_of_entries-insert_entry (e ∷ es) key tree =
    elim (slice_cmp nat_cmp (string_bytes key) (string_bytes e.0))
    as (λ order. pairs_of_entries (match_ordering order ((key, tree) ∷ e ∷ es) ((e.0, tree) ∷ es) (e ∷ insert_entry string_cmp es key tree))
    ≡ match_ordering order ((string_bytes key, tree) ∷ pairs_of_entries (e ∷ es)) ((string_bytes e.0, tree) ∷ pairs_of_entries es)
    ((string_bytes e.0, e.1) ∷ pairs_with (string_bytes key) tree (pairs_of_entries es)))
    [ Less ↦ refl | Equal ↦ refl | Greater ↦ ap (λ pairs. (string_bytes e.0, e.1) ∷ pairs) (pairs_of_entries-insert_entry es key tree) ]

pub lookup-tree_at : (entries : List (String Global × Tree)) (key : List ℕ)
    → lookup (is_at (λ k. slice_cmp nat_cmp key (string_bytes k))) entries ≡ tree_at key (pairs_of_entries entries)
lookup-tree_at [] key = refl
lookup-tree_at (e ∷ es) key =
    rw (is_eq-slice_cmp key (string_bytes e.0)) (ap (λ rest. if bytes_eq key (string_bytes e.0) then Some e.1 else rest) (lookup-tree_at es key))

-- the entries but that of a key
pub pairs_of_entries-remove_entry : (entries : List (String Global × Tree)) (key : List ℕ)
    → pairs_of_entries (remove_entry (is_at (λ k. slice_cmp nat_cmp key (string_bytes k))) entries) ≡ pairs_without key (pairs_of_entries entries)
pairs_of_entries-remove_entry [] key = refl
pairs_of_entries-remove_entry (e ∷ es) key =
    rw (← is_eq-slice_cmp key (string_bytes e.0))
    (elim (is_eq (slice_cmp nat_cmp key (string_bytes e.0)))
    as (λ same. pairs_of_entries (if same then es else e ∷ remove_entry (is_at (λ k. slice_cmp nat_cmp key (string_bytes k))) es)
    ≡ (if same then pairs_of_entries es else (string_bytes e.0, e.1) ∷ pairs_without key (pairs_of_entries es)))
    [ true ↦ refl | false ↦ ap (λ pairs. (string_bytes e.0, e.1) ∷ pairs) (pairs_of_entries-remove_entry es key) ])

below_all : (k : String Global) (entries : List (String Global × Tree)) → AllByRecursion (λ q. string_cmp k q ≡ Less) (keys_of entries)
    → AllByRecursion (λ q. slice_cmp nat_cmp (string_bytes k) q ≡ Less) (keys_of (pairs_of_entries entries))
below_all k [] all = all
below_all k (e ∷ es) all = (all.0, below_all k es all.1)

-- the keys of a map ascend by their bytes
pub ascending : (entries : List (String Global × Tree)) → IsStrictlySortedBy string_cmp (keys_of entries) → Ascend (pairs_of_entries entries)
unfolding IsStrictlySortedBy
ascending [] sorted = sorted
ascending (e ∷ es) sorted = (below_all e.0 es sorted.0, ascending es sorted.1)

-- every entry lies between no bounds
pub between_none : (entries : List (String Global × Tree)) → entries_between string_cmp Unbounded Unbounded entries ≡ entries
between_none [] = refl
between_none (e ∷ es) = ap (λ rest. e ∷ rest) (between_none es)

-- the entries behind a key
pub between_after : (entries : List (String Global × Tree)) (key : String Global)
    → pairs_of_entries (entries_between string_cmp (Excluded key) Unbounded entries) ≡ pairs_above (string_bytes key) (pairs_of_entries entries)
between_after [] key = refl
between_after (e ∷ es) key =
    elim (is_lt (slice_cmp nat_cmp (string_bytes key) (string_bytes e.0)))
    as (λ later. pairs_of_entries (if later && true then e ∷ entries_between string_cmp (Excluded key) Unbounded es else entries_between string_cmp (Excluded key) Unbounded es)
    ≡ (if later then (string_bytes e.0, e.1) ∷ pairs_above (string_bytes key) (pairs_of_entries es) else pairs_above (string_bytes key) (pairs_of_entries es)))
    [ true ↦ ap (λ pairs. (string_bytes e.0, e.1) ∷ pairs) (between_after es key) | false ↦ between_after es key ]

-- no keys ascend
pub none_ascend : Ascend []
unfolding IsStrictlySortedBy
none_ascend = tt

-- none of no pairs
pub take_none : (count : ℕ) (none : Pairs) → none ≡ [] → take count none ≡ []
take_none zero none is = refl
take_none (suc n) none is = rw is refl

met_last : (key : List ℕ) (tree : Tree) (P : List ℕ → Type 0) (pairs rest : Pairs) → AllByRecursion P (keys_of (pairs ++ (key, tree) ∷ rest)) → P key
met_last key tree P [] rest all = all.0
met_last key tree P (p ∷ ps) rest all = met_last key tree P ps rest all.1

-- a key that comes next in order goes last
pub pairs_with-last : (key : List ℕ) (tree : Tree) (pairs rest : Pairs) → Ascend (pairs ++ (key, tree) ∷ rest) → pairs_with key tree pairs ≡ pairs ++ (key, tree) ∷ []
unfolding IsStrictlySortedBy
pairs_with-last key tree [] rest ascend = refl
pairs_with-last key tree (p ∷ ps) rest ascend =
    let below : slice_cmp nat_cmp p.0 key ≡ Less = met_last key tree (λ q. slice_cmp nat_cmp p.0 q ≡ Less) ps rest ascend.0 in
    let above : slice_cmp nat_cmp key p.0 ≡ Greater = nat_list_cmp_total.antisymm key p.0 ∙ ap ordering_reverse below in
    rw above (ap (λ pairs. p ∷ pairs) (pairs_with-last key tree ps rest ascend.1))

-- the pairs of an entry and of those before it, where the keys are in order
pub pairs_with-next : (done rest entries : List (String Global × Tree)) (e : String Global × Tree) → entries ≡ done ++ e ∷ rest → IsStrictlySortedBy string_cmp (keys_of entries)
    → pairs_with (string_bytes e.0) e.1 (pairs_of_entries done) ≡ pairs_of_entries (done ++ e ∷ [])
pairs_with-next done rest entries e split sorted =
    let shown : String Global × Tree → List ℕ × Tree = λ entry. (string_bytes entry.0, entry.1) in
    let ascend : Ascend (pairs_of_entries done ++ (string_bytes e.0, e.1) ∷ pairs_of_entries rest) = subst Ascend (ap pairs_of_entries split ∙ map-append shown done (e ∷ rest)) (ascending entries sorted) in
    pairs_with-last (string_bytes e.0) e.1 (pairs_of_entries done) (pairs_of_entries rest) ascend ∙ sym (map-append shown done (e ∷ []))
