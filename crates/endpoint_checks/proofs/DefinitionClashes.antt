-- Definitions that differ in another table, and endpoints that define otherwise.
use Rattle.std.proofs.Common.{◌≡◌, ◌++◌, ◌∷◌, [], Bool, true, false, List, Some, ℕ, map, refl, sym, codes, subst, inl, inr}
use Rattle.std.specs.Prelude.{◌↔◌, Contains, IsTrue, bytes_eq, not}
use Rattle.std.proofs.lemmas.Bool.{cases_Bool}
use Rattle.std.proofs.lemmas.List.Elements.{All-contains, All-weaker}
use Rattle.schema_values.proofs.CallerLemmas.{contains_first, contains_later}
use Rattle.descriptors.specs.declared.table.Definition.{Definition}
use Rattle.descriptors.specs.Definitions.{entry_of}
use Rattle.descriptors.proofs.CallerLemmas.{entry_name}
use Rattle.api_versions.specs.Overlaps.{Overlaps}
use Rattle.api_declarations.specs.Values.{DeclarationValue}
use Rattle.endpoint_parameters.specs.Firsts.{IsFirstOf, NoneOf}
use Rattle.endpoint_parameters.proofs.CallerLemmas.{among, first-map, none-map, none_not_first}
use Rattle.endpoint_parameters.specs.Told.{quoted}
use Rattle.endpoint_checks.specs.Clashes.{DefinesOneOtherwise, DefinesOtherwise, DiffersIn, IsDefinedOtherwise, IsShownBeside}
use Rattle.endpoint_checks.specs.EndpointIndexes.{StandsFor}

-- a definition differs where the other of its name is not equal
pub differs_from : (table : List Definition) (d other : Definition) (equal : Bool) → entry_of table d.name ≡ Some other → IsTrue equal ↔ (other ≡ d)
    → IsTrue (not equal) ↔ DiffersIn table d
differs_from table d other true found equals = (λ clash. cc clash, λ differs. absurd (differs.2 (cc (differs.1, found, equals.0 refl))))
differs_from table d other false found equals = (λ is. (other, found, λ same. cc (equals.1 same)), λ differs. refl)

-- a definition that is found in a table stands in it
pub found_inside : (table : List Definition) (name : List ℕ) (d : Definition) → entry_of table name ≡ Some d → Contains table d
found_inside [] name d found = absurd (cc found)
found_inside (x ∷ table) name d found = elim (cases_Bool (bytes_eq x.name name)) [
  | inl here ↦
      let same : x ≡ d = cc (rw here at found) in
      subst (Contains (x ∷ table)) same (contains_first x table)
  | inr other ↦ contains_later x table d (found_inside table name d (rw other at found))
]

-- a definition that differs from that of an endpoint differs from that of one that stands for it
pub differs_there : (e : DeclarationValue) (d : Definition) (other : DeclarationValue) → IsDefinedOtherwise e d other
    → (there : Definition) × Contains other.shape.table there × (there.name ≡ d.name) × ((stand_in : DeclarationValue) → StandsFor other there stand_in → IsDefinedOtherwise e d stand_in)
differs_there e d other otherwise =
    let there = otherwise.differs.0 in
    let named = entry_name other.shape.table d.name there otherwise.differs.1 in (
      there,
      found_inside other.shape.table d.name there otherwise.differs.1,
      named,
      λ stand_in stands. record {
        shown = record {
          visible = otherwise.shown.visible;
          other_visible = stands.visible;
          versions = subst (Overlaps e.versions) (sym stands.versions) otherwise.shown.versions;
        };
        differs = (there, subst (λ (name : List ℕ). entry_of stand_in.shape.table name ≡ Some there) named stands.same, otherwise.differs.2);
      },
    )

-- one that defines otherwise does so by one definition
by_one : (e other : DeclarationValue) → DefinesOtherwise e other → DefinesOneOtherwise e other
by_one e other otherwise = (
  otherwise.definition,
  among e.shape.table otherwise.first.earlier otherwise.first.later otherwise.definition otherwise.first.in_order,
  record {
    shown = record { visible = otherwise.visible; other_visible = otherwise.other_visible; versions = otherwise.versions };
    differs = otherwise.first.holds;
  },
)

module _ {A : Type 0} (declared : A → DeclarationValue) (e : DeclarationValue) (before : List A) where
  not_otherwise : (xs : List A) → NoneOf (λ x. DefinesOneOtherwise e (declared x)) xs → NoneOf (λ x. DefinesOtherwise e (declared x)) xs
  not_otherwise xs none =
      All-weaker (λ x. ¬ DefinesOneOtherwise e (declared x)) (λ x. ¬ DefinesOtherwise e (declared x)) (λ x none otherwise. none (by_one e (declared x) otherwise)) xs none

  -- where none does so, none is the first that defines otherwise
  pub none_told : NoneOf (λ x. DefinesOneOtherwise e (declared x)) before → (other : DeclarationValue) → ¬ IsFirstOf (DefinesOtherwise e) (map declared before) other
  none_told none other =
      none_not_first (DefinesOtherwise e) (map declared before) other (none-map declared (DefinesOtherwise e) before (not_otherwise before none))

  module _ (x : A) (first : IsFirstOf (λ x. DefinesOneOtherwise e (declared x)) before x) where
    -- the first definition of the first that does so is told
    pub clash_told : (d : Definition) → IsFirstOf (DiffersIn (declared x).shape.table) e.shape.table d → (message : List ℕ)
        → message ≡ quoted (codes "definition ") (codes " differs from that of endpoint " ++ (declared x).operation_id) d.name
        → (other : DeclarationValue) × (clash : IsFirstOf (DefinesOtherwise e) (map declared before) other)
        × (message ≡ quoted (codes "definition ") (codes " differs from that of endpoint " ++ other.operation_id) clash.holds.definition.name)
    clash_told d differs message told =
        let shown : IsShownBeside e (declared x) = first.holds.2.shown in
        let holds : DefinesOtherwise e (declared x) = record { visible = shown.visible; other_visible = shown.other_visible; versions = shown.versions; definition = d; first = differs } in
        let there = first-map declared (DefinesOtherwise e) before x record {
          earlier = first.earlier;
          later = first.later;
          in_order = first.in_order;
          none_earlier = not_otherwise first.earlier first.none_earlier;
          holds = holds;
        } in (
          declared x,
          record { earlier = there.earlier; later = there.later; in_order = there.in_order; none_earlier = there.none_earlier; holds = holds },
          told,
        )

    -- and there is one
    pub some_differs : ¬ NoneOf (DiffersIn (declared x).shape.table) e.shape.table
    some_differs none = All-contains (λ d. ¬ DiffersIn (declared x).shape.table d) e.shape.table first.holds.0 none first.holds.1 first.holds.2.differs
