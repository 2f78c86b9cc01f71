-- Endpoints that are found by an index of them.
use Rattle.std.proofs.Common.{◌≡◌, inl, inr, ◌⊎◌, ℕ, ◌+◌, ◌<◌, ◌≤◌, [], List, length, map, take, get_or, Option, Some, sym, ◌∙◌, ap, subst, arith}
use Rattle.std.specs.Prelude.{All, Contains, option_map, slice_get}
use Rattle.std.proofs.lemmas.List.Elements.{All-contains, All-head, All-more, All-weaker}
use Rattle.std.proofs.lemmas.Option.{slice_get-map, slice_get_cases}
use Rattle.descriptors.specs.declared.table.Definition.{Definition}
use Rattle.path_templates.specs.Places.{places_at}
use Rattle.path_templates.specs.Shapes.{path_shape}
use Rattle.api_declarations.specs.Keys.{key_if}
use Rattle.api_declarations.specs.Values.{DeclarationValue}
use Rattle.endpoint_parameters.specs.Firsts.{IsFirstPlace, IsSuchAt}
use Rattle.endpoint_checks.specs.Clashes.{DefinesOneOtherwise, IsDefinedOtherwise, ServesSame}
use Rattle.endpoint_checks.specs.EndpointIndexes.{HasPlace, IsIndexed, StandsAt}
use Rattle.endpoint_checks.specs.declared.index.EndpointIndex.{EndpointIndex}
use Rattle.endpoint_checks.proofs.DefinitionClashes.{differs_there}

-- the first place where an endpoint defines the name of one of some definitions otherwise; or the end
pub record IsFirstBy {A : Type 0} (declared : A → DeclarationValue) (before : List A) (e : DeclarationValue) (ds : List Definition) (first : ℕ) : Type 0 where
  pub is_such : (first ≡ length before) ⊎ IsSuchAt (λ x. DefinesOneOtherwise e (declared x)) before first
  pub none_earlier : All (λ d. (q : ℕ) → q < first → ¬ IsSuchAt (λ x. IsDefinedOtherwise e d (declared x)) before q) ds

-- before it none defines one of the endpoint's names otherwise
pub none_defining : {A : Type 0} (declared : A → DeclarationValue) (before : List A) (e : DeclarationValue) (first : ℕ) → IsFirstBy declared before e e.shape.table first
    → (q : ℕ) → q < first → ¬ IsSuchAt (λ x. DefinesOneOtherwise e (declared x)) before q
none_defining declared before e first is_first q below such =
    All-contains (λ d. (q : ℕ) → q < first → ¬ IsSuchAt (λ x. IsDefinedOtherwise e d (declared x)) before q) e.shape.table such.holds.0 is_first.none_earlier such.holds.1 q below
    record { thing = such.thing; found = such.found; holds = such.holds.2 }

module _ {A : Type 0} (declared : A → DeclarationValue) (before : List A) (index : EndpointIndex) (is : IsIndexed (map declared before) index) (e : DeclarationValue) where
  -- the same endpoint among the declarations
  declared_at : (q : ℕ) (x : A) → slice_get before q ≡ Some x → slice_get (map declared before) q ≡ Some (declared x)
  declared_at q x found = slice_get-map declared before q ∙ ap (option_map declared) found

  -- what holds of a declaration holds of the endpoint
  undeclared : (Holds : DeclarationValue → Type 0) (q : ℕ) → IsSuchAt Holds (map declared before) q → IsSuchAt (λ x. Holds (declared x)) before q
  undeclared Holds q such = elim (slice_get_cases before q).1 [
    | inl here ↦
        let same : such.thing ≡ declared here.0 = cc (such.found, declared_at q here.0 here.2) in
        record { thing = here.0; found = here.2; holds = subst Holds same such.holds }
    | inr past ↦ absurd (cc (such.found, slice_get-map declared before q, ap (option_map declared) past.1))
  ]

  -- what serves the same has a place at the shape
  pub serving_stands : (shape : List ℕ) → path_shape e.path ≡ Some shape → (q : ℕ) → IsSuchAt (λ x. ServesSame e (declared x)) before q → Contains (places_at index.shapes shape) q
  serving_stands shape has q such =
      let same : path_shape (declared such.thing).path ≡ Some shape = such.holds.other_has_it ∙ sym such.holds.has_shape ∙ has in
      All-head (λ key. Contains (places_at index.shapes key) q) shape []
      (subst (λ (o : Option (List ℕ)). StandsAt index.shapes (key_if o) q) same (is.shapes q (declared such.thing) (declared_at q such.thing such.found)))

  -- where an endpoint defines a name otherwise, one that does so has a place at the name, there or before
  pub defining_stands : (d : Definition) (q : ℕ) → IsSuchAt (λ x. IsDefinedOtherwise e d (declared x)) before q
      → (place : ℕ) × (place ≤ q) × Contains (places_at index.definitions d.name) place × IsSuchAt (λ x. IsDefinedOtherwise e d (declared x)) before place
  defining_stands d q such =
      let other = declared such.thing in
      let found = differs_there e d other such.holds in
      let At = λ (place : ℕ) (name : List ℕ). Contains (places_at index.definitions name) place in
      let places = is.definitions q other (declared_at q such.thing such.found) such.holds.shown.other_visible in
      elim (All-contains (HasPlace (map declared before) index.definitions q other) other.shape.table found.0 places found.1) [
        | inl at ↦ (q, omega arith, subst (At q) found.2 at, such)
        | inr s ↦ (
          s.earlier,
          omega (arith, s.before),
          subst (At s.earlier) found.2 s.stands,
          undeclared (IsDefinedOtherwise e d) s.earlier record { thing = s.other.thing; found = s.other.found; holds = found.3 s.other.thing s.other.holds },
        )
      ]

  -- it serves the same at no place before the first of those at the shape
  pub none_serving : (shape : List ℕ) → path_shape e.path ≡ Some shape → (end first : ℕ) → IsFirstPlace (λ x. ServesSame e (declared x)) before (places_at index.shapes shape) end first
      → (q : ℕ) → q < first → ¬ IsSuchAt (λ x. ServesSame e (declared x)) before q
  none_serving shape has end first is_first q below such =
      All-contains (λ q. q < first → ¬ IsSuchAt (λ x. ServesSame e (declared x)) before q) (places_at index.shapes shape) q is_first.none_earlier (serving_stands shape has q such) below such

  -- with one definition more
  pub first_by_more : (i first next : ℕ) (d : Definition) → i < length e.shape.table → d ≡ get_or e.shape.table i d → IsFirstBy declared before e (take i e.shape.table) first
      → IsFirstPlace (λ x. IsDefinedOtherwise e d (declared x)) before (places_at index.definitions d.name) first next → IsFirstBy declared before e (take (i + 1) e.shape.table) next
  first_by_more i first next d inside is_there so_far more =
      let NoneBefore = λ (n : ℕ) (d : Definition). (q : ℕ) → q < n → ¬ IsSuchAt (λ x. IsDefinedOtherwise e d (declared x)) before q in record {
        is_such = elim more.is_such [
          | inl same ↦ subst (λ (n : ℕ). (n ≡ length before) ⊎ IsSuchAt (λ x. DefinesOneOtherwise e (declared x)) before n) (sym same) so_far.is_such
          | inr such ↦ inr record { thing = such.thing; found = such.found; holds = (d, (i, inside, sym is_there), such.holds) }
        ];
        none_earlier =
            All-more (NoneBefore next) e.shape.table i d inside
            (All-weaker (NoneBefore first) (NoneBefore next) (λ d none q below. none q (omega (arith, below, more.within))) (take i e.shape.table) so_far.none_earlier)
            (subst (NoneBefore next) is_there
            (λ q below such.
            let there = defining_stands d q such in
            All-contains (λ q. q < next → ¬ IsSuchAt (λ x. IsDefinedOtherwise e d (declared x)) before q) (places_at index.definitions d.name) there.0 more.none_earlier there.2 (omega (arith, below, there.1)) there.3));
      }
