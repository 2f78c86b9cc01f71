-- An operation holds of a request exactly where the request denotes arguments for the slots of its endpoint.
use Rattle.std.proofs.Common.{◌≡◌, ◌↔◌, ℕ, false, ◌&&◌, List, [], ◌∷◌, is_ok}
use Rattle.std.proofs.Common.{is_some, refl, sym, ◌∙◌, ap, inl, inr}
use Rattle.std.proofs.lemmas.Bool.{and_from, and_parts}
use Rattle.std.proofs.lemmas.List.Elements.{All-contains}
use Rattle.std.specs.List.{AllByRecursion}
use Rattle.std.specs.Prelude.{Contains, IsOk}
use Rattle.std.specs.declared.result.Result.TheVariants.{Ok, Err}
use Rattle.schema_values.specs.declared.json_value.Json.{Json}
use Rattle.request_words.specs.declared.request.WireRequest.{WireRequest}
use Rattle.request_words.specs.Pairs.{query_pairs}
use Rattle.http_bodies.specs.Bodies.{BodyState}
use Rattle.openapi_values.specs.Listed.{ListedHolds}
use Rattle.openapi_values.specs.Pages.{has_token}
use Rattle.descriptors.specs.declared.desc.Desc.{Desc}
use Rattle.written_schemas.specs.Reached.{DefinesReached}
use Rattle.request_parts.specs.Requests.{Request}
use Rattle.handler_shapes.specs.declared.arguments.Arg.{Arg}
use Rattle.handler_shapes.specs.declared.slot.Slot.{Slot}
use Rattle.handler_shapes.specs.declared.slot.Slot.TheVariants.{Path, Query, Header, PagedQuery, TypedBody, RawBody}
use Rattle.handler_shapes.specs.declared.slot.Slot.TheVariants.{StreamBody}
use Rattle.handler_shapes.specs.ShapeChecks.{ShapePasses, SlotPasses}
use Rattle.api_extract.specs.Denotes.{GivenArgs, Terms, args_by, args_told, before_args, slot_told}
use Rattle.api_extract.specs.Extraction.{IsWithin, extracted}
use Rattle.api_extract.specs.Refusals.{GivenArg}
use Rattle.api_declarations.specs.Values.{DeclarationValue}
use Rattle.api_documents.specs.Drawn.{IsDrawn}
use Rattle.api_documents.specs.ErrorNames.{NamedErrorValue}
use Rattle.api_documents.specs.Operations.{operation_of}
use Rattle.api_agreement.specs.Agreement.{Agrees, DenotesArguments, GivesArguments, IsAdmitted}
use Rattle.api_agreement.specs.Agreement.{SendsNoToken, sent, terms_of}
use Rattle.api_agreement.specs.ShownSlots.{HasShownSlots, IsShown}
use Rattle.api_agreement.proofs.Each.{each_of}
use Rattle.api_agreement.proofs.OperationSlots.{SlotHolds, operation_by_slots}
use Rattle.api_agreement.proofs.SlotsAgree.{AsksFirst, slot_from, slot_to}
use Rattle.api_agreement.proofs.SlotsApart.{answers_in_pages}

-- ---- all arguments are there where each is

args_where : (o : GivenArgs) → IsOk o ↔ ((args : List Arg) × (o ≡ Ok args))
args_where (Ok args) = (λ h. (args, refl), λ h. refl)
args_where (Err error) = (λ h. absurd (cc h), λ h. absurd (cc h.1))

both_there : (one : GivenArg) (others : GivenArgs) → is_ok (before_args one others) ≡ (is_ok one && is_ok others)
both_there (Ok arg) (Ok args) = refl
both_there (Ok arg) (Err error) = refl
both_there (Err error) others = refl

module _ (given : Slot → GivenArg) where
  each_there : (slots : List Slot) → IsOk (args_by given slots) → AllByRecursion (λ slot. IsOk (given slot)) slots
  each_there [] h = tt
  each_there (slot ∷ slots) h = let both =
      and_parts _ _ (sym (both_there (given slot) (args_by given slots)) ∙ h) in (both.0, each_there slots both.1)

  all_there : (slots : List Slot) → AllByRecursion (λ slot. IsOk (given slot)) slots → IsOk (args_by given slots)
  all_there [] h = refl
  all_there (slot ∷ slots) h = both_there (given slot) (args_by given slots) ∙ and_from _ _ h.0 (all_there slots h.1)

-- ---- an operation

module _ (doc : Json) (named : List NamedErrorValue) (d : DeclarationValue) (shown : HasShownSlots d)
    (passes : ShapePasses d.shape)
    (defines : (desc : Desc) → IsDrawn d.shape desc → DefinesReached doc d.shape.table desc)
    (request : WireRequest) (body : BodyState) (limit budget : ℕ) where
  abbrev slots : List Slot
  slots = d.shape.slots

  abbrev IsGiven : Slot → Type 0
  IsGiven slot = IsOk (slot_told (terms_of d limit budget) request body slot)

  is_shown : (slot : Slot) → Contains slots slot → IsShown d.body_content_type d.shape.table slot
  is_shown slot c = All-contains (IsShown d.body_content_type d.shape.table) slots slot shown.each c

  slot_passes : (slot : Slot) → Contains slots slot → SlotPasses d.shape.table slot
  slot_passes slot c = All-contains (SlotPasses d.shape.table) slots slot passes.slots c

  -- without a page token the first page is asked for
  paged_first : SendsNoToken d request → (scan selector : Desc) (selector_table : _)
      → Contains slots (PagedQuery scan selector selector_table) → has_token (query_pairs request.query) ≡ false
  paged_first (inl none) scan selector selector_table c =
      absurd (cc (answers_in_pages d.shape.table slots scan selector selector_table c, ap is_some none))
  paged_first (inr none) scan selector selector_table c = none

  asks_first : SendsNoToken d request → (slot : Slot) → Contains slots slot → AsksFirst request slot
  asks_first none (PagedQuery scan selector selector_table) c = paged_first none scan selector selector_table c
  asks_first none (Path desc) c = tt
  asks_first none (Query desc) c = tt
  asks_first none (Header desc) c = tt
  asks_first none (TypedBody desc name) c = tt
  asks_first none RawBody c = tt
  asks_first none StreamBody c = tt

  pub held_is_denoted : SendsNoToken d request → ListedHolds doc request (operation_of named d)
      → DenotesArguments d (terms_of d limit budget) request body
  held_is_denoted none h =
      (args_where (args_told (terms_of d limit budget) slots request body)).0
      (all_there (slot_told (terms_of d limit budget) request body) slots
      (each_of (SlotHolds doc request d) IsGiven slots
      (λ slot c s. slot_to doc d shown passes defines request body limit budget slot c (is_shown slot c)
      (slot_passes slot c) (asks_first none slot c) s)
      ((operation_by_slots doc request d named shown.pages shown.last).0 h)))

  pub denoted_is_held : DenotesArguments d (terms_of d limit budget) request body
      → ListedHolds doc request (operation_of named d)
  denoted_is_held denoted =
      (operation_by_slots doc request d named shown.pages shown.last).1
      (each_of IsGiven (SlotHolds doc request d) slots
      (λ slot c ok. slot_from doc d shown passes defines request body limit budget slot c (is_shown slot c)
      (slot_passes slot c) ok)
      (each_there (slot_told (terms_of d limit budget) request body) slots
      ((args_where (args_told (terms_of d limit budget) slots request body)).1 denoted)))

  pub given_is_denoted : (o : GivenArgs) → o ≡ args_told (terms_of d limit budget) slots request body
      → IsOk o ↔ DenotesArguments d (terms_of d limit budget) request body
  given_is_denoted o same = (
    λ ok. (args_where (args_told (terms_of d limit budget) slots request body)).0 (ap is_ok (sym same) ∙ ok),
    λ h. ap is_ok same ∙ (args_where (args_told (terms_of d limit budget) slots request body)).1 h,
  )

-- ---- what a document says, where it admits what its operation holds of, and what is read is what is denoted

module _ (doc : Json) (named : List NamedErrorValue) (d : DeclarationValue) (shown : HasShownSlots d)
    (passes : ShapePasses d.shape)
    (defines : (desc : Desc) → IsDrawn d.shape desc → DefinesReached doc d.shape.table desc)
    (admitted : (request : WireRequest) → IsAdmitted doc d request ↔ ListedHolds doc request (operation_of named d))
    (read : (terms : Terms) (request : Request) (body : BodyState) → IsWithin terms body
    → extracted terms d.shape.slots request body ≡ args_told terms d.shape.slots (sent request body) body) where
  module _ (request : WireRequest) (body : BodyState) (limit budget : ℕ) where
    admitted_to : SendsNoToken d request → IsAdmitted doc d request
        → DenotesArguments d (terms_of d limit budget) request body
    admitted_to none a =
        held_is_denoted doc named d shown passes defines request body limit budget none ((admitted request).0 a)

    admitted_from : DenotesArguments d (terms_of d limit budget) request body → IsAdmitted doc d request
    admitted_from denoted =
        (admitted request).1 (denoted_is_held doc named d shown passes defines request body limit budget denoted)

  given_where : (request : Request) (body : BodyState) (limit budget : ℕ) → IsWithin (terms_of d limit budget) body
      → GivesArguments d (terms_of d limit budget) request body
      ↔ DenotesArguments d (terms_of d limit budget) (sent request body) body
  given_where request body limit budget within =
      given_is_denoted doc named d shown passes defines (sent request body) body limit budget
      (extracted (terms_of d limit budget) d.shape.slots request body)
      (read (terms_of d limit budget) request body within)

  pub agrees : Agrees doc d
  agrees = record {
    exact = λ request body limit budget none.
        (admitted_to request body limit budget none, admitted_from request body limit budget);
    denoted = admitted_from;
    given = λ request body limit budget within none. (
      λ a.
          (given_where request body limit budget within).1 (admitted_to (sent request body) body limit budget none a),
      λ ok.
          admitted_from (sent request body) body limit budget ((given_where request body limit budget within).0 ok),
    );
  }
