-- Which arguments a request denotes for the slots of a handler, and how it is refused where it denotes none (OpenAPI
-- 3.0.3, Operation Object: its parameters and its request body).
use Rattle.std.specs.Prelude.{◌≡◌, ℕ, List, [], ◌∷◌, codes, Result}
use Rattle.std.specs.declared.result.Result.TheVariants.{Ok, Err}
use Rattle.request_words.specs.declared.request.WireRequest.{WireRequest}
use Rattle.request_words.specs.Pairs.{query_pairs}
use Rattle.http_bodies.specs.Bodies.{BodyState}
use Rattle.body_reading.specs.Streams.{fresh_stream}
use Rattle.request_parts.specs.declared.content_type.ApiEndpointBodyContentType.{ApiEndpointBodyContentType}
use Rattle.handler_shapes.specs.declared.slot.Slot.{Slot}
use Rattle.handler_shapes.specs.declared.slot.Slot.TheVariants.{Path, Query, Header, PagedQuery}
use Rattle.handler_shapes.specs.declared.slot.Slot.TheVariants.{TypedBody, RawBody, StreamBody}
use Rattle.handler_shapes.specs.declared.arguments.Arg.{Arg}
use Rattle.handler_shapes.specs.declared.arguments.Arg.TheVariants.{Raw, Stream}
use Rattle.descriptors.specs.declared.table.Definition.{Definition}
use Rattle.flat_maps.specs.declared.repeats.Repeats.TheVariants.{Refuse}
use Rattle.flat_maps.specs.Flat.{flat_told}
use Rattle.flat_maps.specs.Maps.{map_values}
use Rattle.flat_maps.specs.Pairs.{pairs_told}
use Rattle.header_texts.specs.HeaderTexts.{headers_told}
use Rattle.api_extract.specs.declared.extract_error.ExtractError.{ExtractError}
use Rattle.api_extract.specs.PageQueries.{page_query_told}
use Rattle.api_extract.specs.Refusals.{GivenArg, told_as}
use Rattle.api_extract.specs.TypedBodies.{typed_body}

-- on what terms a request is read: the definitions that slots refer to, the kind of a typed body, and the limit and the
-- budget of frames of a body
pub record Terms : Type 0 where
  pub table : List Definition
  pub content_type : ApiEndpointBodyContentType
  pub limit : ℕ
  pub budget : ℕ

-- these terms
abbrev pub terms : List Definition → ApiEndpointBodyContentType → ℕ → ℕ → Terms
terms table content_type limit budget =
    record { table = table; content_type = content_type; limit = limit; budget = budget }

-- One row for each slot: what a request gives it. The body is that of the request as it stands, with its frames.
abbrev pub slot_told : Terms → WireRequest → BodyState → Slot → GivenArg
slot_told terms request body (Path desc) =
    told_as (codes "bad parameter in URL path: ")
    (flat_told terms.table (map_values (λ value. value) request.variables) desc)
slot_told terms request body (Query desc) =
    told_as (codes "unable to parse query string: ") (pairs_told terms.table Refuse (query_pairs request.query) desc)
slot_told terms request body (Header desc) =
    told_as (codes "error processing headers: ") (headers_told terms.table request.headers desc)
slot_told terms request body (PagedQuery scan selector selector_table) =
    told_as (codes "unable to parse query string: ") (page_query_told (record {
      table = terms.table;
      scan = scan;
      selector_table = selector_table;
      selector = selector;
    }) (query_pairs request.query))
slot_told terms request body (TypedBody desc name) =
    typed_body terms.table desc terms.content_type request.headers request.body
slot_told terms request body RawBody = Ok (Raw request.body)
slot_told terms request body StreamBody = Ok (Stream (fresh_stream body terms.limit terms.budget))

-- the arguments of some slots, or the first error
abbrev pub GivenArgs : Type 0
GivenArgs = Result (List Arg) ExtractError

-- an argument before those of the slots behind
abbrev pub arg_before : Arg → GivenArgs → GivenArgs
arg_before arg (Ok args) = Ok (arg ∷ args)
arg_before arg (Err error) = Err error

-- of two errors the first one is told
abbrev pub before_args : GivenArg → GivenArgs → GivenArgs
before_args (Ok arg) args = arg_before arg args
before_args (Err error) args = Err error

-- one argument for each slot, in order
abbrev pub args_by : (Slot → GivenArg) → List Slot → GivenArgs
args_by given [] = Ok []
args_by given (slot ∷ slots) = before_args (given slot) (args_by given slots)

-- what a request gives some slots
abbrev pub args_told : Terms → List Slot → WireRequest → BodyState → GivenArgs
args_told terms slots request body = args_by (slot_told terms request body) slots

-- the request denotes these arguments
abbrev pub Denotes : Terms → List Slot → WireRequest → BodyState → List Arg → Type 0
Denotes terms slots request body args = args_told terms slots request body ≡ Ok args
