-- What an operation of a document has is sound.
use Rattle.std.proofs.Common.{◌≡◌, ◌≢◌, ℕ, false, List, [], ◌∷◌, map}
use Rattle.std.proofs.Common.{Option, Some, None, option_and_then, MatchOption, bytes_eq, codes, refl, sym, ap}
use Rattle.std.proofs.Common.{subst}
use Rattle.std.proofs.lemmas.List.Elements.{All-head, All-tail}
use Rattle.std.proofs.lemmas.Slice.Eq.{bytes_eq-Decides}
use Rattle.std.specs.List.{AllByRecursion}
use Rattle.std.specs.Option.{option_map_or, option_or}
use Rattle.std.specs.Prelude.{⊤, All, IfSome}
use Rattle.schema_values.specs.Order.{sorted_by}
use Rattle.schema_values.specs.Sound.{AreDistinct, IsSound}
use Rattle.schema_values.proofs.CallerLemmas.{AreDistinct-sorted, IsSound-Object}
use Rattle.openapi_values.specs.declared.parameter.HeaderObject.{HeaderObject}
use Rattle.openapi_values.specs.declared.parameter.Parameter.{Parameter}
use Rattle.openapi_values.specs.SoundParts.{IsSoundBody, IsSoundHeader, IsSoundMap, IsSoundMedia, IsSoundOperation}
use Rattle.openapi_values.specs.SoundParts.{IsSoundParameter, IsSoundResponse, names_of_map}
use Rattle.descriptors.specs.declared.desc.Desc.{Desc}
use Rattle.descriptors.specs.declared.desc.Field.{Field}
use Rattle.descriptors.specs.declared.table.Definition.{Definition}
use Rattle.descriptors.specs.Definitions.{field_name}
use Rattle.typed_values.specs.Checks.{TablePasses}
use Rattle.typed_values.specs.Lengths.{HasShortLengths, TableHasShortLengths}
use Rattle.typed_values.specs.Schemas.{in_query}
use Rattle.typed_values.proofs.CallerLemmas.{sorted_ascends}
use Rattle.written_schemas.proofs.CallerLemmas.{appended, schema_titled_sound}
use Rattle.written_texts.specs.FieldParameters.{parameter_of, query_parameters}
use Rattle.request_parts.specs.declared.content_type.ApiEndpointBodyContentType.{ApiEndpointBodyContentType}
use Rattle.handler_shapes.specs.declared.shape.ApiEndpointErrorResponse.{ApiEndpointErrorResponse}
use Rattle.handler_shapes.specs.declared.shape.ContentShape.{ContentShape}
use Rattle.handler_shapes.specs.declared.shape.ContentShape.TheVariants as contents
use Rattle.handler_shapes.specs.declared.shape.HandlerShape.{HandlerShape}
use Rattle.handler_shapes.specs.declared.slot.Slot.{Slot}
use Rattle.handler_shapes.specs.declared.slot.Slot.TheVariants.{Path, Query, Header, PagedQuery, TypedBody, RawBody}
use Rattle.handler_shapes.specs.declared.slot.Slot.TheVariants.{StreamBody}
use Rattle.handler_shapes.specs.ShapeChecks.{ContentPasses, HeadersPass, ShapePasses, SlotPasses}
use Rattle.handler_shapes.specs.ShapeLengths.{ContentHasShortLengths, ShapeHasShortLengths, SlotHasShortLengths}
use Rattle.api_declarations.specs.Values.{DeclarationValue}
use Rattle.endpoint_metadata.specs.Shown.{binary_schema, body_documented, documented_parameters, slot_documented}
use Rattle.endpoint_metadata.specs.Structs.{listed_fields}
use Rattle.api_documents.specs.Bodies.{body_of}
use Rattle.api_documents.specs.ErrorNames.{NamedErrorValue, name_of_error}
use Rattle.api_documents.specs.Operations.{operation_of}
use Rattle.api_documents.specs.Responses.{code_text, content_of, error_responses, header_of, headers_of, responses_of}
use Rattle.api_documents.specs.Responses.{success_of}
use Rattle.api_documents.proofs.DecimalTexts.{no_decimal}
use Rattle.api_documents.proofs.SoundParameters.{IsFine, in_query_sound, listed_sound, names_once, slot_sound}

other_text : (a b : List ℕ) → bytes_eq a b ≡ false → a ≢ b
other_text a b unlike same = absurd (cc ((bytes_eq-Decides a b).1 same, unlike))

-- a schema of bytes
binary_sound : IsSound binary_schema
binary_sound = (IsSound-Object _).1 ((tt, (tt, tt)), (((λ same. absurd (cc same)), tt), (tt, tt)))

-- ---- what is sound of both of two is so of the first that is there

either_sound : {X : Type 0} (P : X → Type 0) (o other : Option X)
    → MatchOption o ⊤ P → MatchOption other ⊤ P → MatchOption (option_or o other) ⊤ P
either_sound P None other h k = k
either_sound P (Some x) other h k = h

module _ (table : List Definition) (passes : TablePasses table) (short : TableHasShortLengths table) where
  -- ---- parameters and body

  parameters_sound : (slots : List Slot) → All (SlotPasses table) slots → All SlotHasShortLengths slots
      → AllByRecursion IsSoundParameter (documented_parameters table slots)
  parameters_sound [] right lengths = tt
  parameters_sound (slot ∷ slots) right lengths =
      appended IsSoundParameter (slot_documented table slot) (documented_parameters table slots)
      (slot_sound table passes short slot (All-head (SlotPasses table) slot slots right)
      (All-head SlotHasShortLengths slot slots lengths))
      (parameters_sound slots (All-tail (SlotPasses table) slot slots right)
      (All-tail SlotHasShortLengths slot slots lengths))

  module _ (kind : ApiEndpointBodyContentType) where
    one_body_sound : (slot : Slot) → SlotPasses table slot → SlotHasShortLengths slot
        → MatchOption (body_documented kind table slot) ⊤ IsSoundBody
    one_body_sound (TypedBody desc name) right lengths =
        ((schema_titled_sound table desc passes right lengths name, tt), (tt, tt))
    one_body_sound RawBody right lengths = ((binary_sound, tt), (tt, tt))
    one_body_sound StreamBody right lengths = ((binary_sound, tt), (tt, tt))
    one_body_sound (Path desc) right lengths = tt
    one_body_sound (Query desc) right lengths = tt
    one_body_sound (Header desc) right lengths = tt
    one_body_sound (PagedQuery scan selector selector_table) right lengths = tt

    body_sound : (slots : List Slot) → All (SlotPasses table) slots → All SlotHasShortLengths slots
        → MatchOption (body_of kind table slots) ⊤ IsSoundBody
    body_sound [] right lengths = tt
    body_sound (slot ∷ slots) right lengths =
        either_sound IsSoundBody (body_documented kind table slot) (body_of kind table slots)
        (one_body_sound slot (All-head (SlotPasses table) slot slots right)
        (All-head SlotHasShortLengths slot slots lengths))
        (body_sound slots (All-tail (SlotPasses table) slot slots right)
        (All-tail SlotHasShortLengths slot slots lengths))

  -- ---- the response of a success

  as_headers_sound : (ps : List Parameter) → AllByRecursion IsSoundParameter ps
      → AllByRecursion (λ (entry : List ℕ × HeaderObject). IsSoundHeader entry.1) (map header_of ps)
  as_headers_sound [] h = tt
  as_headers_sound (p ∷ ps) h = (h.0, as_headers_sound ps h.1)

  headers_named : (fs : List Field)
      → names_of_map (map header_of (map (parameter_of (codes "query") in_query table) fs)) ≡ map field_name fs
  headers_named [] = refl
  headers_named (f ∷ fs) = ap (λ (names : List (List ℕ)). f.name ∷ names) (headers_named fs)

  headers_sound : (o : Option Desc) → HeadersPass table o → IfSome o HasShortLengths
      → IsSoundMap IsSoundHeader (headers_of table o)
  headers_sound None right lengths = (tt, tt)
  headers_sound (Some desc) right lengths =
      let fs = listed_fields table desc in
      let fine : IsFine table passes short desc = record { right = right; lengths = lengths } in
      let once = names_once table passes short desc fine in (
        as_headers_sound (query_parameters table fs)
            (listed_sound table passes short desc fine (codes "query") in_query (in_query_sound table passes short)),
        subst AreDistinct (sym (headers_named (sorted_by field_name fs)))
            (AreDistinct-sorted (map field_name (sorted_by field_name fs)) (sorted_ascends field_name fs once)),
      )

  content_sound : (content : ContentShape) → ContentPasses table content → ContentHasShortLengths content
      → IsSoundMap IsSoundMedia (content_of table content)
  content_sound (contents.Json desc name) right lengths =
      ((schema_titled_sound table desc passes right lengths name, tt), (tt, tt))
  content_sound contents.Empty right lengths = (tt, tt)
  content_sound contents.Freeform right lengths = (((IsSound-Object []).1 (tt, tt), tt), (tt, tt))

-- ---- all responses

module _ (shape : HandlerShape) (passes : ShapePasses shape) (short : ShapeHasShortLengths shape)
    (named : List NamedErrorValue) where
  succeeded : IsSoundResponse (success_of shape.table shape.response)
  succeeded = (
    headers_sound shape.table passes.table short.table shape.response.headers passes.response.headers
        short.response.headers,
    content_sound shape.table passes.table short.table shape.response.content passes.response.content
        short.response.content,
  )

  -- a code of digits, and errors under `4XX` and `5XX`
  with_errors : (success : Option ℕ) (error : Option ApiEndpointErrorResponse)
      → IsSoundMap IsSoundResponse
      ((code_text success, success_of shape.table shape.response)
      ∷ option_map_or (λ error. error_responses (name_of_error named error))
      (option_and_then (λ code. error) success) [])
  with_errors None error = ((succeeded, tt), (tt, tt))
  with_errors (Some code) None = ((succeeded, tt), (tt, tt))
  with_errors (Some code) (Some error) = (
    (succeeded, (tt, (tt, tt))),
    (
      (no_decimal code (codes "4XX") refl, (no_decimal code (codes "5XX") refl, tt)),
      ((other_text (codes "4XX") (codes "5XX") refl, tt), (tt, tt)),
    ),
  )

  responses_sound : IsSoundMap IsSoundResponse (responses_of named shape)
  responses_sound = with_errors shape.response.success shape.error

-- ---- an operation

pub operation_sound : (named : List NamedErrorValue) (d : DeclarationValue) → ShapePasses d.shape
    → ShapeHasShortLengths d.shape → IsSoundOperation (operation_of named d)
operation_sound named d passes short = record {
  parameters = parameters_sound d.shape.table passes.table short.table d.shape.slots passes.slots short.slots;
  body = body_sound d.shape.table passes.table short.table d.body_content_type d.shape.slots passes.slots short.slots;
  responses = responses_sound d.shape passes short named;
}
