-- What a request gives its slots is an argument or a refusal, and never an error of reading its body.
use Rattle.std.proofs.Common.{ℕ, codes, List, [], ◌∷◌, Option, Some, None}
use Rattle.std.specs.Prelude.{IsErrAnd}
use Rattle.std.specs.declared.result.Result.{Result}
use Rattle.std.specs.declared.result.Result.TheVariants.{Ok, Err}
use Rattle.http_bodies.specs.Bodies.{BodyState}
use Rattle.body_reading.specs.Streams.{fresh_stream}
use Rattle.request_words.specs.declared.request.WireRequest.{WireRequest}
use Rattle.request_words.specs.MediaTypes.{media_type}
use Rattle.request_words.specs.Pairs.{form_pairs, query_pairs}
use Rattle.request_parts.specs.declared.content_type.ApiEndpointBodyContentType.{ApiEndpointBodyContentType}
use Rattle.request_parts.specs.declared.content_type.ApiEndpointBodyContentType.TheVariants.{Json as AsJson, UrlEncoded}
use Rattle.request_parts.specs.ContentTypes.{kind_of, mime_of}
use Rattle.handler_shapes.specs.declared.slot.Slot.{Slot}
use Rattle.handler_shapes.specs.declared.slot.Slot.TheVariants.{Path, Query, Header, PagedQuery, TypedBody, RawBody}
use Rattle.handler_shapes.specs.declared.slot.Slot.TheVariants.{StreamBody}
use Rattle.handler_shapes.specs.declared.arguments.Arg.TheVariants.{Raw, Stream}
use Rattle.descriptors.specs.declared.desc.Desc.{Desc}
use Rattle.descriptors.specs.declared.table.Definition.{Definition}
use Rattle.typed_values.specs.declared.fault.FaultKind.TheVariants.{ContentTypeBytes}
use Rattle.typed_values.specs.declared.fault.FaultKind.TheVariants.{ContentTypeUnsupported, ContentTypeMismatch}
use Rattle.typed_values.specs.Denotes.{Told, refused}
use Rattle.flat_maps.specs.declared.repeats.Repeats.TheVariants.{Refuse}
use Rattle.flat_maps.specs.Flat.{flat_told}
use Rattle.flat_maps.specs.Maps.{map_values}
use Rattle.flat_maps.specs.Pairs.{pairs_told}
use Rattle.header_texts.specs.HeaderTexts.{headers_told}
use Rattle.api_extract.specs.declared.extract_error.ExtractError.{ExtractError}
use Rattle.api_extract.specs.declared.extract_error.ExtractError.TheVariants as errors
use Rattle.api_extract.specs.Denotes.{GivenArgs, Terms, args_by, before_args, slot_told}
use Rattle.api_extract.specs.Extraction.{IsOfReading}
use Rattle.api_extract.specs.PageQueries.{page_query_told}
use Rattle.api_extract.specs.Readings.{value_read}
use Rattle.api_extract.specs.Refusals.{GivenArg, told_as}
use Rattle.api_extract.specs.TypedBodies.{body_by_given, body_by_kinds, body_by_media, read_told}
use Rattle.api_extract.proofs.Denoted.{IsTelling}

-- ---- what relates each tree and each refusal to itself relates what a slot is given with two bodies

module _ (P : GivenArg → GivenArg → Type 0) (each : (prefix : List ℕ) (o : Told)
    → P (told_as prefix o) (told_as prefix o)) where
  module _ (table : List Definition) (desc : Desc) (bytes : List ℕ) (expected : ApiEndpointBodyContentType) where
    by_kinds : (one other : ApiEndpointBodyContentType)
        → P (body_by_kinds table desc bytes one other) (body_by_kinds table desc bytes one other)
    by_kinds AsJson AsJson = each (codes "unable to parse JSON body: ") (read_told table desc (value_read bytes))
    by_kinds UrlEncoded UrlEncoded =
        each (codes "unable to parse URL-encoded body: ") (pairs_told table Refuse (form_pairs bytes) desc)
    by_kinds one other = each [] (refused (ContentTypeMismatch (mime_of one) (mime_of other)))

    by_given : (media : List ℕ) (o : Option ApiEndpointBodyContentType)
        → P (body_by_given table desc bytes expected media o) (body_by_given table desc bytes expected media o)
    by_given media None = each [] (refused (ContentTypeUnsupported media))
    by_given media (Some given) = by_kinds expected given

    by_media : (o : Option (List ℕ))
        → P (body_by_media table desc bytes expected o) (body_by_media table desc bytes expected o)
    by_media None = each [] (refused ContentTypeBytes)
    by_media (Some media) = by_given media (kind_of media)

  -- where it relates bytes to themselves, and the one stream to the other
  module _ (terms : Terms) (request : WireRequest) (one other : BodyState)
      (raw : (bytes : List ℕ) → P (Ok (Raw bytes)) (Ok (Raw bytes)))
      (stream : P (Ok (Stream (fresh_stream one terms.limit terms.budget)))
      (Ok (Stream (fresh_stream other terms.limit terms.budget)))) where
    pub slot_related : (slot : Slot) → P (slot_told terms request one slot) (slot_told terms request other slot)
    slot_related (Path desc) =
        each (codes "bad parameter in URL path: ")
        (flat_told terms.table (map_values (λ value. value) request.variables) desc)
    slot_related (Query desc) =
        each (codes "unable to parse query string: ") (pairs_told terms.table Refuse (query_pairs request.query) desc)
    slot_related (Header desc) =
        each (codes "error processing headers: ") (headers_told terms.table request.headers desc)
    slot_related (PagedQuery scan selector selector_table) =
        each (codes "unable to parse query string: ")
        (page_query_told
        (record { table = terms.table; scan = scan; selector_table = selector_table; selector = selector })
        (query_pairs request.query))
    slot_related (TypedBody desc name) =
        by_media terms.table desc request.body terms.content_type (media_type request.headers)
    slot_related RawBody = raw request.body
    slot_related StreamBody = stream

-- ---- a tree is an argument, and a fault of it a refusal

told_tells : (prefix : List ℕ) (o : Told) → IsTelling (told_as prefix o)
told_tells prefix (Ok tree) = tt
told_tells prefix (Err trouble) = tt

pub slot_tells : (terms : Terms) (request : WireRequest) (body : BodyState) (slot : Slot)
    → IsTelling (slot_told terms request body slot)
slot_tells terms request body slot =
    slot_related (λ one other. IsTelling one) told_tells terms request body body (λ bytes. tt) tt slot

before_tells : (one : GivenArg) (rest : GivenArgs) → IsTelling one → IsTelling rest → IsTelling (before_args one rest)
before_tells (Ok arg) (Ok args) first later = tt
before_tells (Ok arg) (Err error) first later = later
before_tells (Err error) rest first later = first

pub args_tell : (given : Slot → GivenArg) → ((slot : Slot) → IsTelling (given slot)) → (slots : List Slot)
    → IsTelling (args_by given slots)
args_tell given tells [] = tt
args_tell given tells (slot ∷ slots) =
    before_tells (given slot) (args_by given slots) (tells slot) (args_tell given tells slots)

-- ---- and so no error of reading

telling_not_reading : {T : Type 0} (r : Result T ExtractError) → IsTelling r → IsErrAnd r IsOfReading → ⊥
telling_not_reading (Ok given) tells e = e
telling_not_reading (Err (errors.Refused fault message)) tells e = e
telling_not_reading (Err errors.BodyFault) tells e = tells
telling_not_reading (Err (errors.BodyTooLarge sum)) tells e = tells
telling_not_reading (Err (errors.FrameBudget count)) tells e = tells
telling_not_reading (Err errors.OutOfMemory) tells e = tells

pub slot_not_reading : (terms : Terms) (request : WireRequest) (body : BodyState) (slot : Slot)
    → IsErrAnd (slot_told terms request body slot) IsOfReading → ⊥
slot_not_reading terms request body slot e =
    telling_not_reading (slot_told terms request body slot) (slot_tells terms request body slot) e

pub args_not_reading : (given : Slot → GivenArg) → ((slot : Slot) → IsTelling (given slot)) → (slots : List Slot)
    → IsErrAnd (args_by given slots) IsOfReading → ⊥
args_not_reading given tells slots e =
    telling_not_reading (args_by given slots) (args_tell given tells slots) e
