-- Indexes in which each thing has its place at each of its keys: with one place more, and with one thing more.
use Rattle.std.proofs.Common.{◌≡◌, ◌⊎◌, ◌<◌, inl, inr, ℕ, zero, suc, List, [], ◌∷◌, ◌++◌, length, Some, refl, sym, ap, subst, arith}
use Rattle.std.specs.Prelude.{Contains, bytes_eq, slice_get, slice_index_or}
use Rattle.std.proofs.lemmas.Bool.{cases_Bool}
use Rattle.std.proofs.lemmas.List.Elements.{All-contains_itself, All-weaker, Contains-append_left, Contains-push}
use Rattle.std.proofs.lemmas.Slice.Eq.{bytes_eq-Decides}
use Rattle.path_templates.specs.Places.{places_at, with_places}
use Rattle.path_templates.specs.declared.place_index.PlaceIndex.{PlaceIndex}
use Rattle.endpoint_checks.specs.EndpointIndexes.{Covers, HasSamePlaces, StandsAt}

-- each place that stood in an index at a key stands there still
abbrev pub Keeps : PlaceIndex → PlaceIndex → Type 0
Keeps old new = (key : List ℕ) (place : ℕ) → Contains (places_at old key) place → Contains (places_at new key) place

-- where each key has the places of before, each place stays
pub keeps_same : (old new : PlaceIndex) → HasSamePlaces old new → Keeps old new
keeps_same old new same q place at = subst (λ (places : List ℕ). Contains places place) (sym (same q)) at

module _ (places : List ℕ → List ℕ) (place : ℕ) where
  -- where a place is added at some keys, those of before stay
  still_there : (keys : List (List ℕ)) (q : List ℕ) (p : ℕ) → Contains (places q) p → Contains (with_places places keys place q) p
  still_there [] q p at = at
  still_there (key ∷ keys) q p at =
      let rest = still_there keys q p at in
      elim (cases_Bool (bytes_eq key q)) [
        | inl here ↦ rw here (Contains-append_left (with_places places keys place q) (place ∷ []) p rest)
        | inr other ↦ rw other rest
      ]

  -- and it stands at each of them
  stands_there : (keys : List (List ℕ)) (q : List ℕ) (k : ℕ) → k < length keys → slice_index_or keys k q ≡ q → Contains (with_places places keys place q) place
  stands_there [] q k inside is = absurd (omega (arith, inside))
  stands_there (key ∷ keys) q zero inside is =
      rw ((bytes_eq-Decides key q).1 is) (Contains-push (with_places places keys place q) place)
  stands_there (key ∷ keys) q (suc k) inside is =
      let rest = stands_there keys q k (omega (arith, inside)) is in
      elim (cases_Bool (bytes_eq key q)) [
        | inl here ↦ rw here (Contains-append_left (with_places places keys place q) (place ∷ []) place rest)
        | inr other ↦ rw other rest
      ]

module _ (old new : PlaceIndex) (keys : List (List ℕ)) (place : ℕ) (added : (q : List ℕ) → places_at new q ≡ with_places (places_at old) keys place q) where
  pub keeps_all : Keeps old new
  keeps_all q p at = subst (λ (places : List ℕ). Contains places p) (sym (added q)) (still_there (places_at old) place keys q p at)

  pub stands_at : (q : List ℕ) → Contains keys q → Contains (places_at new q) place
  stands_at q at = subst (λ (places : List ℕ). Contains places place) (sym (added q)) (stands_there (places_at old) place keys q at.0 at.1 at.2)

  pub stands_all : StandsAt new keys place
  stands_all = All-weaker (Contains keys) (λ key. Contains (places_at new key) place) stands_at keys (All-contains_itself keys)

-- what stands among some things and one more stands among the former, or is the last
pub before_or_last : {A : Type 0} (things : List A) (x : A) (place : ℕ) (thing : A) → slice_get (things ++ x ∷ []) place ≡ Some thing
    → (slice_get things place ≡ Some thing) ⊎ ((place ≡ length things) × (x ≡ thing))
before_or_last [] x zero thing found = inr (refl, cc found)
before_or_last [] x (suc place) thing found = absurd (cc found)
before_or_last (y ∷ things) x zero thing found = inl found
before_or_last (y ∷ things) x (suc place) thing found = elim (before_or_last things x place thing found) [
  | inl before ↦ inl before
  | inr last ↦ inr (ap suc last.0, last.1)
]

-- what stands among some things stands there before more
pub stands_before : {A : Type 0} (things more : List A) (place : ℕ) (thing : A) → slice_get things place ≡ Some thing → slice_get (things ++ more) place ≡ Some thing
stands_before [] more place thing found = absurd (cc found)
stands_before (x ∷ things) more zero thing found = found
stands_before (x ∷ things) more (suc place) thing found = stands_before things more place thing found

module _ {A : Type 0} (keys_of : A → List (List ℕ)) (things : List A) (old new : PlaceIndex) (kept : Keeps old new) (covers : Covers keys_of things old) where
  pub covers_still : Covers keys_of things new
  covers_still place thing found =
      All-weaker (λ key. Contains (places_at old key) place) (λ key. Contains (places_at new key) place) (λ key at. kept key place at) (keys_of thing) (covers place thing found)

  pub covers_more : (x : A) → StandsAt new (keys_of x) (length things) → Covers keys_of (things ++ x ∷ []) new
  covers_more x stands place thing found = elim (before_or_last things x place thing found) [
    | inl before ↦ covers_still place thing before
    | inr last ↦ subst (λ (n : ℕ). StandsAt new (keys_of thing) n) (sym last.0) (subst (λ (y : A). StandsAt new (keys_of y) (length things)) last.1 stands)
  ]
