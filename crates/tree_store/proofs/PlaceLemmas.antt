-- The table of a name among the tables of a store: at its place, or absent.
use Rattle.std.proofs.Common.{◌≡◌, ℕ, ◌+◌, ◌<◌, List, [], ◌∷◌, ◌++◌, length, get_or, true, false, ap, sym, ◌∙◌, refl, arith, zero, suc, Some, None}
use Rattle.std.specs.Prelude.{if◌then◌else◌, bytes_eq}
use Rattle.std.specs.List.{position, position_from}
use Rattle.std.proofs.Math.ListN.{set}
use Rattle.std.proofs.lemmas.List.Quantifiers.{position-Some}
use Rattle.std.proofs.lemmas.Iterator.Adapters.{position_from-zero}
use Rattle.tree_store.specs.Tables.{IsAbsent, Pairs, Tables, changed, pairs_of}

-- the first table of the name stands at this place
record IsFirst (name : List ℕ) (ts : Tables) (place : ℕ) (t : List ℕ × Pairs) : Type 0 where
  within : place < length ts
  named : bytes_eq name (get_or ts place t).0 ≡ true
  before : (k : ℕ) → k < place → bytes_eq name (get_or ts k t).0 ≡ false

first_of_place : (name : List ℕ) (ts : Tables) (place : ℕ) (t : List ℕ × Pairs) → Some place ≡ position (λ u. bytes_eq name u.0) ts → IsFirst name ts place t
first_of_place name ts place t found =
    let facts = position-Some (λ u. bytes_eq name u.0) ts place t (sym found) in
    record { within = facts.0; named = facts.1; before = facts.2 }

behind : {name : List ℕ} {u t : List ℕ × Pairs} {us : Tables} {place : ℕ} → IsFirst name (u ∷ us) (suc place) t → IsFirst name us place t
behind first = record { within = omega arith; named = first.named; before = λ k below. first.before (suc k) (omega arith) }

pairs_of-first : (name : List ℕ) (ts : Tables) (place : ℕ) (t : List ℕ × Pairs) → IsFirst name ts place t → pairs_of name ts ≡ (get_or ts place t).1
pairs_of-first name [] place t first = absurd (omega (arith, first.within))
pairs_of-first name (u ∷ us) zero t first = rw first.named
pairs_of-first name (u ∷ us) (suc place) t first = rw (first.before 0 (omega arith)) (pairs_of-first name us place t (behind first))

changed-first : (name : List ℕ) (change : Pairs → Pairs) (ts : Tables) (place : ℕ) (t : List ℕ × Pairs) → IsFirst name ts place t
    → changed name change ts ≡ set ts place ((get_or ts place t).0, change (get_or ts place t).1)
changed-first name change [] place t first = absurd (omega (arith, first.within))
changed-first name change (u ∷ us) zero t first = rw first.named
changed-first name change (u ∷ us) (suc place) t first =
    rw (first.before 0 (omega arith)) (ap (λ tables. u ∷ tables) (changed-first name change us place t (behind first)))

-- the pairs of the table at the place of its name in a copy of the tables
pub pairs_of-at : (name : List ℕ) (ts : Tables) (place : ℕ) (t : List ℕ × Pairs) (copy : Tables)
    → Some place ≡ position (λ u. bytes_eq name u.0) copy → copy ≡ ts → t ≡ get_or ts place t → pairs_of name ts ≡ t.1
pairs_of-at name ts place t copy found same is =
    pairs_of-first name ts place t (first_of_place name ts place t (rw same at found)) ∙ ap (λ u. u.1) (sym is)

-- the pairs of the table at the place of its name are changed
pub changed-at : (name : List ℕ) (change : Pairs → Pairs) (ts : Tables) (place : ℕ) (t : List ℕ × Pairs) (copy : Tables)
    → Some place ≡ position (λ u. bytes_eq name u.0) copy → copy ≡ ts → t ≡ get_or ts place t
    → changed name change ts ≡ set ts place (t.0, change t.1)
changed-at name change ts place t copy found same is =
    changed-first name change ts place t (first_of_place name ts place t (rw same at found))
    ∙ ap (λ u. set ts place (u.0, change u.1)) (sym is)

pairs_of-absent_from : (name : List ℕ) (ts : Tables) (i : ℕ) → position_from (λ u. bytes_eq name u.0) i ts ≡ None → pairs_of name ts ≡ []
pairs_of-absent_from name [] i absent = refl
pairs_of-absent_from name (t ∷ ts) i absent =
    elim (bytes_eq name t.0) as (λ same. (if same then Some i else position_from (λ u. bytes_eq name u.0) (i + 1) ts) ≡ None → (if same then t.1 else pairs_of name ts) ≡ [])
    [ true ↦ λ none. cc | false ↦ λ none. pairs_of-absent_from name ts (i + 1) none ] absent

changed-absent_from : (name : List ℕ) (change : Pairs → Pairs) (ts : Tables) (i : ℕ) → position_from (λ u. bytes_eq name u.0) i ts ≡ None
    → changed name change ts ≡ ts ++ (name, change []) ∷ []
changed-absent_from name change [] i absent = refl
changed-absent_from name change (t ∷ ts) i absent =
    elim (bytes_eq name t.0)
    as (λ same. (if same then Some i else position_from (λ u. bytes_eq name u.0) (i + 1) ts) ≡ None
    → (if same then (t.0, change t.1) ∷ ts else t ∷ changed name change ts) ≡ t ∷ (ts ++ (name, change []) ∷ []))
    [ true ↦ λ none. cc | false ↦ λ none. ap (λ tables. t ∷ tables) (changed-absent_from name change ts (i + 1) none) ] absent

-- an absent table has no pairs
pub pairs_of-absent : (name : List ℕ) (ts copy : Tables) → None ≡ position (λ u. bytes_eq name u.0) copy → copy ≡ ts → pairs_of name ts ≡ []
pairs_of-absent name ts copy absent same =
    pairs_of-absent_from name ts 0 (sym (position_from-zero (λ u. bytes_eq name u.0) ts) ∙ sym (rw same at absent))

-- and is made last
pub changed-absent : (name : List ℕ) (change : Pairs → Pairs) (ts copy : Tables) → None ≡ position (λ u. bytes_eq name u.0) copy → copy ≡ ts
    → changed name change ts ≡ ts ++ (name, change []) ∷ []
changed-absent name change ts copy absent same =
    changed-absent_from name change ts 0 (sym (position_from-zero (λ u. bytes_eq name u.0) ts) ∙ sym (rw same at absent))

-- a table with a place is not absent
pub none_absent : (name : List ℕ) (ts : Tables) (place : ℕ) (copy : Tables)
    → Some place ≡ position (λ u. bytes_eq name u.0) copy → copy ≡ ts → IsAbsent name ts → ⊥
none_absent name ts place copy found same absent =
    let clash : Some place ≡ None = found ∙ ap (position (λ u. bytes_eq name u.0)) same ∙ absent in cc
