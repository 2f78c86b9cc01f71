-- An operation holds of a request exactly where what it has of each slot does.
use Rattle.std.proofs.Common.{◌↔◌, ℕ, Bool, List, [], ◌∷◌, Option, Some, None, IfSome, IsTrue}
use Rattle.std.proofs.Common.{is_some, refl}
use Rattle.std.specs.List.{AllByRecursion}
use Rattle.std.specs.Prelude.{AllPairs}
use Rattle.schema_values.specs.declared.json_value.Json.{Json}
use Rattle.request_words.specs.declared.request.WireRequest.{WireRequest}
use Rattle.openapi_values.specs.Listed.{listed_holds, listed_pages_hold, ListedBodyHolds, ListedHolds}
use Rattle.openapi_values.specs.Options.{is_none_or}
use Rattle.written_texts.specs.FieldParameters.{AllHold}
use Rattle.handler_shapes.specs.declared.slot.Slot.{Slot}
use Rattle.handler_shapes.specs.BodySlots.{BodyComesLast}
use Rattle.api_declarations.specs.Values.{DeclarationValue}
use Rattle.endpoint_metadata.specs.Modes.{asked_names, first_asked}
use Rattle.endpoint_metadata.specs.Shown.{body_documented, documented_parameters, slot_documented}
use Rattle.api_documents.specs.ErrorNames.{NamedErrorValue}
use Rattle.api_documents.specs.Operations.{operation_of}
use Rattle.api_agreement.specs.ShownSlots.{ReadApart}
use Rattle.api_agreement.proofs.Each.{each_of, joined_from, joined_to}
use Rattle.api_agreement.proofs.SlotsApart.{body_from, body_to, pages_from, pages_to}

-- what is asked where something is there
tested : {X : Type 0} (p : X → Bool) (o : Option X) → IsTrue (is_none_or o p) → IfSome o (λ x. IsTrue (p x))
tested p None h = tt
tested p (Some x) h = h

passed : {X : Type 0} (p : X → Bool) (o : Option X) → IfSome o (λ x. IsTrue (p x)) → IsTrue (is_none_or o p)
passed p None h = refl
passed p (Some x) h = h

-- whether the operation of an endpoint answers in pages
abbrev pub is_paged : DeclarationValue → Bool
is_paged d = is_some (first_asked d.shape.table d.shape.slots)

-- what an operation asks besides its parameters, where it answers in pages
abbrev pub PagesAsk : WireRequest → DeclarationValue → List (List ℕ) → Type 0
PagesAsk request d names = IsTrue (listed_pages_hold request (documented_parameters d.shape.table d.shape.slots) names)

-- what an operation has of a slot holds: its parameters, what pages ask, and the body
pub record SlotHolds (doc : Json) (request : WireRequest) (d : DeclarationValue) (slot : Slot) : Type 0 where
  pub listed : AllHold doc request (is_paged d) (slot_documented d.shape.table slot)
  pub pages : IfSome (asked_names d.shape.table slot) (PagesAsk request d)
  pub body : IfSome (body_documented d.body_content_type d.shape.table slot) (ListedBodyHolds doc request)

module _ (doc : Json) (request : WireRequest) (d : DeclarationValue) where
  abbrev Listed : Slot → Type 0
  Listed slot = AllHold doc request (is_paged d) (slot_documented d.shape.table slot)

  abbrev InPages : Slot → Type 0
  InPages slot = IfSome (asked_names d.shape.table slot) (PagesAsk request d)

  abbrev OfBody : Slot → Type 0
  OfBody slot = IfSome (body_documented d.body_content_type d.shape.table slot) (ListedBodyHolds doc request)

  all_three : (slots : List Slot) → AllByRecursion Listed slots → AllByRecursion InPages slots
      → AllByRecursion OfBody slots → AllByRecursion (SlotHolds doc request d) slots
  all_three [] listed pages body = tt
  all_three (slot ∷ slots) listed pages body =
      (record { listed = listed.0; pages = pages.0; body = body.0 }, all_three slots listed.1 pages.1 body.1)

  pub operation_by_slots : (named : List NamedErrorValue) → AllPairs ReadApart d.shape.slots
      → BodyComesLast d.shape.slots
      → ListedHolds doc request (operation_of named d) ↔ AllByRecursion (SlotHolds doc request d) d.shape.slots
  operation_by_slots named apart last =
      let slots = d.shape.slots in
      let table = d.shape.table in
      let kind = d.body_content_type in
      let test = listed_holds doc request (is_paged d) in
      let asked = listed_pages_hold request (documented_parameters table slots) in (
        λ h. all_three slots
            (joined_to (slot_documented table) test slots h.parameters)
            (pages_to table (PagesAsk request d) slots apart (tested asked (first_asked table slots) h.pages))
            (body_to kind table (ListedBodyHolds doc request) slots last h.body),
        λ h. record {
          parameters =
              joined_from (slot_documented table) test slots
              (each_of (SlotHolds doc request d) Listed slots (λ slot c s. s.listed) h);
          pages = passed asked (first_asked table slots)
              (pages_from table (PagesAsk request d) slots
              (each_of (SlotHolds doc request d) InPages slots (λ slot c s. s.pages) h));
          body = body_from kind table (ListedBodyHolds doc request) slots
              (each_of (SlotHolds doc request d) OfBody slots (λ slot c s. s.body) h);
        },
      )
