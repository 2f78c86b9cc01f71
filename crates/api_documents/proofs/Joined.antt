-- What stands in lists that are made of others, and what holds of all that stands there.
use Rattle.std.proofs.Common.{◌≡◌, ◌⊎◌, List, [], ◌∷◌, map, Option, Some, None, refl, sym, ◌∙◌, ap, subst}
use Rattle.std.proofs.Common.{inl, inr, arith}
use Rattle.std.specs.Prelude.{Contains}
use Rattle.std.specs.List.{AllByRecursion, cons_option, filter_map, flat_map}
use Rattle.std.proofs.lemmas.List.Elements.{Contains-append_left, Contains-append_right}
use Rattle.schema_values.proofs.CallerLemmas.{contains_cases, contains_first, contains_later}
use Rattle.written_schemas.proofs.CallerLemmas.{appended}

module _ {X Y : Type 0} where
  pub in_filtered : (h : X → Option Y) (y : Y) (xs : List X) (x : X) → Contains xs x → h x ≡ Some y
      → Contains (filter_map h xs) y
  in_filtered h y [] x c is = absurd (omega (arith, c.1))
  in_filtered h y (first ∷ xs) x c is =
      by_found (h first) refl (contains_cases first xs x c) (λ later. in_filtered h y xs x later is)
    where
      by_found : (o : Option Y) → h first ≡ o → (first ≡ x) ⊎ Contains xs x
          → (Contains xs x → Contains (filter_map h xs) y) → Contains (cons_option o (filter_map h xs)) y
      by_found None e (inl same) rest = absurd (cc (sym e ∙ ap h same ∙ is))
      by_found None e (inr later) rest = rest later
      by_found (Some z) e (inl same) rest =
          let own : z ≡ y = cc (sym e ∙ ap h same ∙ is) in
          subst (λ (w : Y). Contains (z ∷ filter_map h xs) w) own (contains_first z (filter_map h xs))
      by_found (Some z) e (inr later) rest = contains_later z (filter_map h xs) y (rest later)

  -- what holds of each that is found holds of all
  pub each_found : (h : X → Option Y) (P : Y → Type 0) → ((x : X) (y : Y) → h x ≡ Some y → P y)
      → (xs : List X) → AllByRecursion P (filter_map h xs)
  each_found h P each [] = tt
  each_found h P each (x ∷ xs) = by_found (h x) refl (each_found h P each xs)
    where
      by_found : (o : Option Y) → h x ≡ o → AllByRecursion P (filter_map h xs)
          → AllByRecursion P (cons_option o (filter_map h xs))
      by_found None is rest = rest
      by_found (Some y) is rest = (each x y is, rest)

  pub each_joined : (f : X → List Y) (P : Y → Type 0) (xs : List X)
      → ((x : X) → Contains xs x → AllByRecursion P (f x)) → AllByRecursion P (flat_map f xs)
  each_joined f P [] each = tt
  each_joined f P (x ∷ xs) each =
      appended P (f x) (flat_map f xs) (each x (contains_first x xs))
      (each_joined f P xs (λ y c. each y (contains_later x xs y c)))

  pub in_joined : (f : X → List Y) (y : Y) (xs : List X) (x : X) → Contains xs x → Contains (f x) y
      → Contains (flat_map f xs) y
  in_joined f y [] x c at = absurd (omega (arith, c.1))
  in_joined f y (first ∷ xs) x c at = elim (contains_cases first xs x c) [
    | inl same ↦ Contains-append_left (f first) (flat_map f xs) y
        (subst (λ (z : X). Contains (f z) y) (sym same) at)
    | inr later ↦ Contains-append_right (f first) (flat_map f xs) y (in_joined f y xs x later at)
  ]

  -- what holds of each that is made holds of the one that is made of a thing
  pub each_mapped : (P : Y → Type 0) (f : X → Y) (xs : List X) (x : X) → AllByRecursion P (map f xs) → Contains xs x
      → P (f x)
  each_mapped P f [] x all c = absurd (omega (arith, c.1))
  each_mapped P f (first ∷ xs) x all c = elim (contains_cases first xs x c) [
    | inl same ↦ subst (λ (z : X). P (f z)) same all.0
    | inr later ↦ each_mapped P f xs x all.1 later
  ]
