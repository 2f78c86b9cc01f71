-- What slots reach together.
use Rattle.std.proofs.Common.{◌≡◌, ℕ, List, ◌∷◌, ◌++◌, map, inl, inr, subst, sym}
use Rattle.std.proofs.lemmas.List.{map-append}
use Rattle.std.proofs.lemmas.List.Elements.{Contains-append_left, Contains-append_right, Contains-append_cases}
use Rattle.std.specs.Prelude.{Contains}
use Rattle.descriptors.specs.declared.table.Definition.{Definition}
use Rattle.descriptors.specs.Definitions.{definition_name}
use Rattle.api_types.specs.Types.{HoldsAll}
use Rattle.handler_shapes.specs.declared.slot.Slot.{Slot}
use Rattle.typed_extractors.specs.SlotsReach.{SlotReachesExactly, SlotsReachExactly}

-- a table that has definitions and others has both
pub holds_left : (table ds es : List Definition) → HoldsAll table (ds ++ es) → HoldsAll table ds
holds_left table ds es held e c = held e (Contains-append_left ds es e c)

pub holds_right : (table ds es : List Definition) → HoldsAll table (ds ++ es) → HoldsAll table es
holds_right table ds es held e c = held e (Contains-append_right ds es e c)

-- a slot and others reach what each of them reaches
pub both_reach : (slot : Slot) (slots : List Slot) (ds es : List Definition)
    → SlotReachesExactly ds slot → SlotsReachExactly es slots → SlotsReachExactly (ds ++ es) (slot ∷ slots)
both_reach slot slots ds es one others table held name =
    let left = one table (holds_left table ds es held) name in
    let right = others table (holds_right table ds es held) name in
    let first = map definition_name ds in
    let later = map definition_name es in
    let names : map definition_name (ds ++ es) ≡ first ++ later = map-append definition_name ds es in (
      λ r. subst (λ (ns : List (List ℕ)). Contains ns name) (sym names)
          (elim r [
            | inl by_first ↦ Contains-append_left first later name (left.0 by_first)
            | inr by_later ↦ Contains-append_right first later name (right.0 by_later)
          ]),
      λ c. elim
          (Contains-append_cases first later name (subst (λ (ns : List (List ℕ)). Contains ns name) names c)) [
            | inl of_first ↦ inl (left.1 of_first)
            | inr of_later ↦ inr (right.1 of_later)
          ],
    )
