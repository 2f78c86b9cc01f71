-- Lists in the order of names: how they are mapped, and what holds of their items.
use Rattle.std.proofs.Common.{◌≡◌, ℕ, List, [], ◌∷◌, map, fold, refl, sym, ◌∙◌, ap}
use Rattle.std.specs.Cmp.Lexicographic.{slice_cmp}
use Rattle.std.specs.List.{AllByRecursion}
use Rattle.std.specs.Ordering.{nat_cmp}
use Rattle.std.specs.declared.cmp.Ordering.{Ordering}
use Rattle.std.specs.declared.cmp.Ordering.TheVariants.{Less, Equal, Greater}
use Rattle.schema_values.specs.Order.{at_place, inserted_by, sorted_by}

module _ {X Y : Type 0} (old : X → List ℕ) (new : Y → List ℕ) (f : X → Y) (same : (x : X) → new (f x) ≡ old x) where
  map_at_place : (o : Ordering) (x first : X) (rest later : List X) → map f (at_place o x first rest later) ≡ at_place o (f x) (f first) (map f rest) (map f later)
  map_at_place Less x first rest later = refl
  map_at_place Equal x first rest later = refl
  map_at_place Greater x first rest later = refl

  map_inserted : (x : X) (xs : List X) → map f (inserted_by old x xs) ≡ inserted_by new (f x) (map f xs)
  map_inserted x [] = refl
  map_inserted x (first ∷ rest) =
      map_at_place (slice_cmp nat_cmp (old x) (old first)) x first rest (inserted_by old x rest)
      ∙ ap (at_place (slice_cmp nat_cmp (old x) (old first)) (f x) (f first) (map f rest)) (map_inserted x rest)
      ∙ ap (λ (name : List ℕ). at_place (slice_cmp nat_cmp name (old first)) (f x) (f first) (map f rest) (inserted_by new (f x) (map f rest))) (sym (same x))
      ∙ ap (λ (name : List ℕ). at_place (slice_cmp nat_cmp (new (f x)) name) (f x) (f first) (map f rest) (inserted_by new (f x) (map f rest))) (sym (same first))

  map_into : (sorted xs : List X) → map f (fold (λ some x. inserted_by old x some) sorted xs) ≡ fold (λ some y. inserted_by new y some) (map f sorted) (map f xs)
  map_into sorted [] = refl
  map_into sorted (x ∷ xs) =
      map_into (inserted_by old x sorted) xs
      ∙ ap (λ (ys : List Y). fold (λ some y. inserted_by new y some) ys (map f xs)) (map_inserted x sorted)

  -- what keeps names keeps the order
  pub map_sorted : (xs : List X) → map f (sorted_by old xs) ≡ sorted_by new (map f xs)
  map_sorted xs = map_into [] xs

module _ {X : Type 0} (P : X → Type 0) (name : X → List ℕ) where
  all_at_place : (o : Ordering) (x first : X) (rest later : List X) → P x → P first → AllByRecursion P rest → AllByRecursion P later → AllByRecursion P (at_place o x first rest later)
  all_at_place Less x first rest later px pf pr pl = (px, (pf, pr))
  all_at_place Equal x first rest later px pf pr pl = (pf, pl)
  all_at_place Greater x first rest later px pf pr pl = (pf, pl)

  pub all_inserted : (x : X) (xs : List X) → P x → AllByRecursion P xs → AllByRecursion P (inserted_by name x xs)
  all_inserted x [] px ps = (px, tt)
  all_inserted x (first ∷ rest) px ps =
      all_at_place (slice_cmp nat_cmp (name x) (name first)) x first rest (inserted_by name x rest) px ps.0 ps.1 (all_inserted x rest px ps.1)

  all_into : (sorted xs : List X) → AllByRecursion P sorted → AllByRecursion P xs → AllByRecursion P (fold (λ some x. inserted_by name x some) sorted xs)
  all_into sorted [] qs ps = qs
  all_into sorted (x ∷ xs) qs ps = all_into (inserted_by name x sorted) xs (all_inserted x sorted ps.0 qs) ps.1

  -- what holds of each item holds of each in order
  pub all_sorted : (xs : List X) → AllByRecursion P xs → AllByRecursion P (sorted_by name xs)
  all_sorted xs ps = all_into [] xs tt ps
