-- The arguments that a request denotes are of its slots.
use Rattle.std.proofs.Common.{◌≡◌, ℕ, codes, List, [], ◌∷◌, Option, Some, None, refl, subst}
use Rattle.std.proofs.lemmas.List.Elements.{recursion_from_All}
use Rattle.std.specs.List.{AllByRecursion}
use Rattle.std.specs.declared.result.Result.TheVariants.{Ok, Err}
use Rattle.http_bodies.specs.Bodies.{BodyState}
use Rattle.body_reading.specs.Streams.{fresh_stream}
use Rattle.schema_values.specs.declared.json_value.Json.{Json}
use Rattle.schema_values.proofs.CallerLemmas.{reading_sound}
use Rattle.request_words.specs.declared.request.WireRequest.{WireRequest}
use Rattle.request_words.specs.MediaTypes.{media_type}
use Rattle.request_words.specs.Pairs.{form_pairs, query_pairs}
use Rattle.descriptors.specs.declared.desc.Desc.{Desc}
use Rattle.descriptors.specs.declared.table.Definition.{Definition}
use Rattle.descriptors.specs.declared.tree.Tree.{Tree}
use Rattle.typed_values.specs.Checks.{TablePasses, DescPasses}
use Rattle.typed_values.specs.Denotes.{Told}
use Rattle.typed_values.specs.Fits.{Fits}
use Rattle.typed_values.proofs.CallerLemmas.{denoted_fits}
use Rattle.flat_maps.specs.declared.repeats.Repeats.TheVariants.{Refuse}
use Rattle.flat_maps.specs.Flat.{flat_told}
use Rattle.flat_maps.specs.Maps.{map_values}
use Rattle.flat_maps.specs.Pairs.{pairs_told}
use Rattle.flat_maps.proofs.CallerLemmas.{flat_fits, pairs_fit}
use Rattle.header_texts.specs.HeaderTexts.{headers_told}
use Rattle.header_texts.proofs.CallerLemmas.{headers_fit}
use Rattle.request_parts.specs.declared.content_type.ApiEndpointBodyContentType.{ApiEndpointBodyContentType}
use Rattle.request_parts.specs.declared.content_type.ApiEndpointBodyContentType.TheVariants.{Json as AsJson, UrlEncoded}
use Rattle.request_parts.specs.ContentTypes.{kind_of}
use Rattle.handler_shapes.specs.declared.slot.Slot.{Slot}
use Rattle.handler_shapes.specs.declared.slot.Slot.TheVariants.{Path, Query, Header, PagedQuery, TypedBody, RawBody, StreamBody}
use Rattle.handler_shapes.specs.declared.arguments.Arg.{Arg}
use Rattle.handler_shapes.specs.declared.arguments.Arg.TheVariants.{Tree as OfTree, Raw, Stream}
use Rattle.handler_shapes.specs.Arguments.{ArgFits, ArgsFit}
use Rattle.handler_shapes.specs.ShapeChecks.{SlotPasses, SlotsPass}
use Rattle.api_extract.specs.Denotes.{Denotes, GivenArgs, Terms, args_by, before_args, slot_told}
use Rattle.api_extract.specs.PageQueries.{PageTypes, page_query_told}
use Rattle.api_extract.specs.Readings.{value_read}
use Rattle.api_extract.specs.Refusals.{GivenArg, told_as}
use Rattle.api_extract.specs.TypedBodies.{body_by_given, body_by_kinds, body_by_media, form_body, json_body, read_told}
use Rattle.api_extract.proofs.PageFits.{TypesPass, page_query_fits, tree_told}
use Rattle.api_extract.proofs.ReadValues.{value_reads}

-- what holds of each tree that is told holds of the argument
of_told : (P : Arg → Type 0) (prefix : List ℕ) (o : Told) (arg : Arg) → ((t : Tree) → o ≡ Ok t → P (OfTree t)) → told_as prefix o ≡ Ok arg → P arg
of_told P prefix o arg each e = let h = tree_told prefix o arg e in subst P h.is (each h.tree h.told)

-- ---- a body under a type

module _ (table : List Definition) (desc : Desc) (name : List ℕ) (passes : TablePasses table) (right : DescPasses table desc) where
  abbrev IsBodyOf : Arg → Type 0
  IsBodyOf = ArgFits table (TypedBody desc name)

  read_fits : (bytes : List ℕ) (o : Option Json) → value_read bytes ≡ o → (t : Tree) → read_told table desc o ≡ Ok t → Fits table desc t
  read_fits bytes None is t e = absurd (cc e)
  read_fits bytes (Some json) is t e = denoted_fits table desc json t passes right (reading_sound bytes json (value_reads bytes json is)) e

  json_fits : (bytes : List ℕ) (arg : Arg) → json_body table desc bytes ≡ Ok arg → IsBodyOf arg
  json_fits bytes arg e = of_told IsBodyOf (codes "unable to parse JSON body: ") (read_told table desc (value_read bytes)) arg (read_fits bytes (value_read bytes) refl) e

  form_fits : (bytes : List ℕ) (arg : Arg) → form_body table desc bytes ≡ Ok arg → IsBodyOf arg
  form_fits bytes arg e =
      of_told IsBodyOf (codes "unable to parse URL-encoded body: ") (pairs_told table Refuse (form_pairs bytes) desc) arg (λ t h. pairs_fit table desc Refuse (form_pairs bytes) t passes right h) e

  kinds_fit : (bytes : List ℕ) (expected given : ApiEndpointBodyContentType) (arg : Arg) → body_by_kinds table desc bytes expected given ≡ Ok arg → IsBodyOf arg
  kinds_fit bytes AsJson AsJson arg e = json_fits bytes arg e
  kinds_fit bytes UrlEncoded UrlEncoded arg e = form_fits bytes arg e
  kinds_fit bytes _ _ arg e = absurd (cc e)

  given_fits : (bytes : List ℕ) (expected : ApiEndpointBodyContentType) (media : List ℕ) (o : Option ApiEndpointBodyContentType) (arg : Arg) → body_by_given table desc bytes expected media o ≡ Ok arg → IsBodyOf arg
  given_fits bytes expected media None arg e = absurd (cc e)
  given_fits bytes expected media (Some given) arg e = kinds_fit bytes expected given arg e

  media_fits : (bytes : List ℕ) (expected : ApiEndpointBodyContentType) (o : Option (List ℕ)) (arg : Arg) → body_by_media table desc bytes expected o ≡ Ok arg → IsBodyOf arg
  media_fits bytes expected None arg e = absurd (cc e)
  media_fits bytes expected (Some media) arg e = given_fits bytes expected media (kind_of media) arg e

-- ---- each slot

module _ (terms : Terms) (request : WireRequest) (body : BodyState) (passes : TablePasses terms.table) where
  arg_fits : (slot : Slot) → SlotPasses terms.table slot → (arg : Arg) → slot_told terms request body slot ≡ Ok arg → ArgFits terms.table slot arg
  arg_fits (Path desc) right arg e =
      let names = map_values (λ value. value) request.variables in
      of_told (ArgFits terms.table (Path desc)) (codes "bad parameter in URL path: ") (flat_told terms.table names desc) arg (λ t h. flat_fits terms.table desc names t passes right h) e
  arg_fits (Query desc) right arg e =
      let pairs = query_pairs request.query in
      of_told (ArgFits terms.table (Query desc)) (codes "unable to parse query string: ") (pairs_told terms.table Refuse pairs desc) arg (λ t h. pairs_fit terms.table desc Refuse pairs t passes right h) e
  arg_fits (Header desc) right arg e =
      of_told (ArgFits terms.table (Header desc)) (codes "error processing headers: ") (headers_told terms.table request.headers desc) arg (λ t h. headers_fit terms.table desc request.headers t passes right h) e
  arg_fits (PagedQuery scan selector selector_table) right arg e =
      let types : PageTypes = record { table = terms.table; scan = scan; selector_table = selector_table; selector = selector } in
      let pass : TypesPass types = record { table = passes; scan = right.0; selector_table = right.1.table; selector = right.1.selector } in
      of_told (ArgFits terms.table (PagedQuery scan selector selector_table)) (codes "unable to parse query string: ") (page_query_told types (query_pairs request.query)) arg (page_query_fits types pass (query_pairs request.query)) e
  arg_fits (TypedBody desc name) right arg e = media_fits terms.table desc name passes right request.body terms.content_type (media_type request.headers) arg e
  arg_fits RawBody right arg e = let same : Raw request.body ≡ arg = cc e in subst (ArgFits terms.table RawBody) same tt
  arg_fits StreamBody right arg e = let same : Stream (fresh_stream body terms.limit terms.budget) ≡ arg = cc e in subst (ArgFits terms.table StreamBody) same tt

  -- one argument more
  one_more : (slot : Slot) (slots : List Slot) → SlotPasses terms.table slot → (one : GivenArg) → slot_told terms request body slot ≡ one → (rest : GivenArgs)
      → ((more : List Arg) → rest ≡ Ok more → ArgsFit terms.table slots more) → (args : List Arg) → before_args one rest ≡ Ok args → ArgsFit terms.table (slot ∷ slots) args
  one_more slot slots right (Ok arg) p (Ok more) later args e =
      let same : arg ∷ more ≡ args = cc e in
      subst (ArgsFit terms.table (slot ∷ slots)) same (arg_fits slot right arg p, later more refl)
  one_more slot slots right (Ok arg) p (Err error) later args e = absurd (cc e)
  one_more slot slots right (Err error) p rest later args e = absurd (cc e)

  args_fit : (slots : List Slot) → AllByRecursion (SlotPasses terms.table) slots → (args : List Arg) → args_by (slot_told terms request body) slots ≡ Ok args → ArgsFit terms.table slots args
  args_fit [] right args e = let same : [] ≡ args = cc e in subst (ArgsFit terms.table []) same tt
  args_fit (slot ∷ slots) right args e =
      one_more slot slots right.0 (slot_told terms request body slot) refl (args_by (slot_told terms request body) slots) (args_fit slots right.1) args e

-- all arguments
pub denoted_fit : (terms : Terms) (slots : List Slot) (request : WireRequest) (body : BodyState) → TablePasses terms.table → SlotsPass terms.table slots → (args : List Arg) → Denotes terms slots request body args → ArgsFit terms.table slots args
denoted_fit terms slots request body passes right args e = args_fit terms request body passes slots (recursion_from_All (SlotPasses terms.table) slots right) args e
