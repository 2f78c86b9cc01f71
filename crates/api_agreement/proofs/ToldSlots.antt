-- What registration looks at of slots is what is told of them, and what is told of the slots of an endpoint that may be
-- registered is listed by a document.
use Rattle.std.proofs.Common.{◌≡◌, true, false, List, [], ◌∷◌, Option, Some, None, IfSome, option_and_then, unwrap_or}
use Rattle.std.proofs.Common.{refl, ◌∙◌, ap, subst, arith, inl, inr}
use Rattle.std.proofs.lemmas.List.Elements.{All-contains, All-contains_itself}
use Rattle.std.specs.List.{AllByRecursion}
use Rattle.std.specs.Prelude.{AllPairs}
use Rattle.schema_values.proofs.CallerLemmas.{contains_cases}
use Rattle.descriptors.specs.declared.desc.Desc.{Desc, out-Desc}
use Rattle.descriptors.specs.declared.desc.Desc.TheOpen.{Desc-F}
use Rattle.descriptors.specs.declared.table.Definition.{Definition}
use Rattle.typed_values.specs.Levels.{DescLevel}
use Rattle.flat_maps.specs.Flat.{fields_by, flat_fields, resolved}
use Rattle.handler_shapes.specs.declared.slot.Slot.{Slot}
use Rattle.handler_shapes.specs.declared.slot.Slot.TheVariants.{Path, Query, Header, PagedQuery, TypedBody, RawBody}
use Rattle.handler_shapes.specs.declared.slot.Slot.TheVariants.{StreamBody}
use Rattle.handler_shapes.specs.ShapeChecks.{SlotPasses}
use Rattle.api_declarations.specs.Values.{DeclarationValue}
use Rattle.endpoint_parameters.specs.Parameters.{fields_of_level, fields_of_resolved, fields_of_struct}
use Rattle.api_registration.specs.declared.cause.RegisterCause.TheVariants as cause
use Rattle.api_registration.specs.Accepted.{MayStandBehind}
use Rattle.endpoint_checks.specs.Types.{IsOpenStruct, TakesOpenStruct}
use Rattle.endpoint_metadata.specs.Modes.{AskAlike, AskFor, PageNames, asked_names, first_asked}
use Rattle.endpoint_metadata.specs.Structs.{IsStruct, fields_at, listed_fields}
use Rattle.endpoint_metadata.specs.WellTyped.{AreWellTyped, TakesStruct}
use Rattle.api_agreement.specs.ShownSlots.{ReadApart}
use Rattle.api_agreement.proofs.AcceptedSlots.{read_apart}
use Rattle.api_agreement.proofs.SlotsApart.{pages_to}

-- ---- the fields of a struct

same_level : (z : DescLevel) → fields_of_level z ≡ unwrap_or (fields_at z) []
same_level (Desc-F.Struct fields deny) = refl
same_level _ = refl

same_resolved : (o : Option Desc)
    → fields_of_resolved o ≡ unwrap_or (option_and_then (λ d. fields_at (out-Desc d)) o) []
same_resolved None = refl
same_resolved (Some d) = same_level (out-Desc d)

pub registered_fields : (table : List Definition) (desc : Desc)
    → fields_of_struct table desc ≡ listed_fields table desc
registered_fields table desc = same_resolved (resolved table desc)

-- ---- a struct that takes unknown names is a struct

open_level : (z : DescLevel) → fields_at z ≡ None → fields_by z ≡ None
open_level (Desc-F.Struct fields true) none = refl
open_level (Desc-F.Struct fields false) none = absurd (cc none)
open_level _ none = refl

open_resolved : (o : Option Desc) → option_and_then (λ d. fields_at (out-Desc d)) o ≡ None → flat_fields o ≡ None
open_resolved None none = refl
open_resolved (Some d) none = open_level (out-Desc d) none

module _ (table : List Definition) where
  open_struct : (desc : Desc) → IsOpenStruct table desc → IsStruct table desc
  open_struct desc opened none = opened (open_resolved (resolved table desc) none)

  takes_struct : (slot : Slot) → TakesOpenStruct table slot → TakesStruct table slot
  takes_struct (Path desc) opened = open_struct desc opened
  takes_struct (Query desc) opened = open_struct desc opened
  takes_struct (Header desc) opened = open_struct desc opened
  takes_struct (PagedQuery scan selector selector_table) opened = open_struct scan opened
  takes_struct (TypedBody desc name) opened = tt
  takes_struct RawBody opened = tt
  takes_struct StreamBody opened = tt

-- ---- the slots of an endpoint that may be registered

pub well_typed : (before : List DeclarationValue) (d : DeclarationValue)
    → MayStandBehind before d → AreWellTyped d.shape.table d.shape.slots
well_typed before d may =
    let supported = may.1.clear cause.UnsupportedSchema in
    record {
      passes = supported.passes.table;
      each = λ k x h.
          let c = All-contains_itself d.shape.slots k x h in
          record {
            passes = All-contains (SlotPasses d.shape.table) d.shape.slots _ supported.passes.slots c;
            struct = takes_struct d.shape.table _ (supported.parameters _ c);
          };
    }

-- ---- all slots of pages ask alike, as there is one at most

of_itself : (o : Option PageNames) → IfSome o (λ names. Some names ≡ o)
of_itself None = tt
of_itself (Some names) = refl

module _ (table : List Definition) (P : PageNames → Type 0) where
  asked_of : (slots : List Slot) → AllByRecursion (λ slot. IfSome (asked_names table slot) P) slots
      → (names : PageNames) → AskFor table slots names → P names
  asked_of [] all names asks = absurd (omega (arith, asks.1.1))
  asked_of (slot ∷ slots) all names asks = elim (contains_cases slot slots asks.0 asks.1) [
    | inl same ↦
        subst (λ (o : Option PageNames). IfSome o P) (ap (asked_names table) same ∙ asks.2) all.0
    | inr later ↦ asked_of slots all.1 names (asks.0, later, asks.2)
  ]

alike_apart : (table : List Definition) (slots : List Slot) → AllPairs ReadApart slots → AskAlike table slots
alike_apart table slots apart one other this that =
    let IsFirst : PageNames → Type 0 = λ names. Some names ≡ first_asked table slots in
    let all = pages_to table IsFirst slots apart (of_itself (first_asked table slots)) in
    cc (asked_of table IsFirst slots all one this, asked_of table IsFirst slots all other that)

pub asked_alike : (before : List DeclarationValue) (d : DeclarationValue)
    → MayStandBehind before d → AskAlike d.shape.table d.shape.slots
asked_alike before d may = alike_apart d.shape.table d.shape.slots (read_apart may.0 before d may.1)
