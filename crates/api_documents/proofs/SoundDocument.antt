-- The document of endpoints that may be listed together is sound.
use Rattle.std.proofs.Common.{◌≡◌, ℕ, Bool, true, false, cond, List, [], ◌∷◌, map, filter, Option, Some, None}
use Rattle.std.proofs.Common.{option_map, MatchOption, codes, refl, sym, subst}
use Rattle.std.proofs.lemmas.List.Elements.{All-contains}
use Rattle.std.specs.List.{AllByRecursion, flat_map}
use Rattle.std.specs.Prelude.{⊤, Contains, IfSome}
use Rattle.schema_values.specs.Sound.{AreDistinct, IsSound}
use Rattle.schema_values.proofs.CallerLemmas.{AreDistinct-sorted, contains_first, contains_later}
use Rattle.openapi_values.specs.declared.info.Info.{Info}
use Rattle.openapi_values.specs.declared.media.ResponseObject.{ResponseObject}
use Rattle.openapi_values.specs.declared.operation.PathItem.{PathItem}
use Rattle.openapi_values.specs.Document.{open_api_json}
use Rattle.openapi_values.specs.SoundParts.{IsSoundItem, IsSoundOperation, IsSoundResponse}
use Rattle.openapi_values.proofs.CallerLemmas.{document_sound}
use Rattle.descriptors.specs.declared.table.Definition.{Definition}
use Rattle.typed_values.specs.Checks.{DescPasses, TablePasses}
use Rattle.typed_values.specs.Lengths.{HasShortLengths, TableHasShortLengths}
use Rattle.written_schemas.proofs.CallerLemmas.{schema_described_sound, schema_titled_sound}
use Rattle.handler_shapes.specs.declared.shape.ApiEndpointErrorResponse.{ApiEndpointErrorResponse}
use Rattle.handler_shapes.specs.ShapeChecks.{ErrorPasses, ShapePasses}
use Rattle.handler_shapes.specs.ShapeLengths.{ShapeHasShortLengths}
use Rattle.api_declarations.specs.Values.{DeclarationValue}
use Rattle.api_documents.specs.Accepted.{MayBeListed}
use Rattle.api_documents.specs.Components.{error_entry, schema_entries, schema_entry}
use Rattle.api_documents.specs.Documents.{document_listing, errors_of}
use Rattle.api_documents.specs.ErrorNames.{NamedErrorValue, listed_error}
use Rattle.api_documents.specs.Listed.{endpoint_of, path_of, paths_in_order, stands_at}
use Rattle.api_documents.specs.Operations.{operation_at, operation_of, path_item_of}
use Rattle.api_documents.specs.Tags.{Configured}
use Rattle.api_documents.proofs.Chosen.{found}
use Rattle.api_documents.proofs.Joined.{each_joined}
use Rattle.api_documents.proofs.ListsEndpoints.{names_kept}
use Rattle.api_documents.proofs.NamedErrors.{each_error, own_error}
use Rattle.api_documents.proofs.OrderedNames.{by_name_sound, texts_ascend}
use Rattle.api_documents.proofs.SoundOperations.{operation_sound}

-- ---- definitions

definitions_sound : (table : List Definition) → TablePasses table → TableHasShortLengths table
    → (q : Definition → Bool) (es : List Definition) → ((e : Definition) → Contains es e → Contains table e)
    → AllByRecursion (λ entry. IsSound entry.1) (map (schema_entry table) (filter q es))
definitions_sound table passes short q [] among = tt
definitions_sound table passes short q (e ∷ es) among =
    by_test (q e) (definitions_sound table passes short q es (λ x c. among x (contains_later e es x c)))
  where
    by_test : (b : Bool) → AllByRecursion (λ entry. IsSound entry.1) (map (schema_entry table) (filter q es))
        → AllByRecursion (λ entry. IsSound entry.1) (map (schema_entry table) (cond b (e ∷ filter q es) (filter q es)))
    by_test true rest =
        let inside = among e (contains_first e es) in
        (schema_described_sound table e.desc passes (passes.each e inside) (short e inside) e.description, rest)
    by_test false rest = rest

-- ---- errors under their names

-- a table passes its checks, and so does the type of an error, whose lengths have 32 bits
record IsFineError (table : List Definition) (error : ApiEndpointErrorResponse) : Type 0 where
  passes : TablePasses table
  right : DescPasses table error.desc
  lengths : HasShortLengths error.desc

abbrev IsFineNamed : NamedErrorValue → Type 0
IsFineNamed n = IsFineError n.table n.error

entries_sound : (named : List NamedErrorValue) → AllByRecursion IsFineNamed named
    → AllByRecursion (λ (entry : List ℕ × ResponseObject). IsSoundResponse entry.1) (map error_entry named)
entries_sound [] fine = tt
entries_sound (n ∷ named) fine = (
  (
    (tt, tt),
    ((schema_titled_sound n.table n.error.desc fine.0.passes fine.0.right fine.0.lengths n.error.name, tt), (tt, tt)),
  ),
  entries_sound named fine.1,
)

module _ (ds : List DeclarationValue) (configured : Configured) (info : Info) (may : MayBeListed ds) where
  abbrev passes_of : (d : DeclarationValue) → Contains ds d → ShapePasses d.shape
  passes_of d c = All-contains (λ (d : DeclarationValue). ShapePasses d.shape) ds d may.passing c

  abbrev lengths_of : (d : DeclarationValue) → Contains ds d → ShapeHasShortLengths d.shape
  lengths_of d c = All-contains (λ (d : DeclarationValue). ShapeHasShortLengths d.shape) ds d may.lengths c

  -- ---- operations

  method_sound : (path method : List ℕ) → MatchOption (operation_at (errors_of ds) ds path method) ⊤ IsSoundOperation
  method_sound path method = by_found (endpoint_of ds path method) refl
    where
      by_found : (o : Option DeclarationValue) → endpoint_of ds path method ≡ o
          → MatchOption (option_map (operation_of (errors_of ds)) o) ⊤ IsSoundOperation
      by_found None is = tt
      by_found (Some d) is =
          let inside = (found (stands_at path method) ds d is).0 in
          operation_sound (errors_of ds) d (passes_of d inside) (lengths_of d inside)

  item_sound : (path : List ℕ) → IsSoundItem (path_item_of (errors_of ds) ds path)
  item_sound path = record {
    get = method_sound path (codes "GET");
    put = method_sound path (codes "PUT");
    post = method_sound path (codes "POST");
    delete = method_sound path (codes "DELETE");
    options = method_sound path (codes "OPTIONS");
    head = method_sound path (codes "HEAD");
    patch = method_sound path (codes "PATCH");
    trace = method_sound path (codes "TRACE");
  }

  items_sound : (paths : List (List ℕ))
      → AllByRecursion (λ (entry : List ℕ × PathItem). IsSoundItem entry.1)
      (map (λ path. (path, path_item_of (errors_of ds) ds path)) paths)
  items_sound [] = tt
  items_sound (path ∷ paths) = (item_sound path, items_sound paths)

  -- ---- errors

  error_fine : (d : DeclarationValue) → Contains ds d → (error : ApiEndpointErrorResponse)
      → listed_error d.shape ≡ Some error → IsFineError d.shape.table error
  error_fine d c error is =
      let own = own_error d.shape error is in
      record {
        passes = (passes_of d c).table;
        right = subst (ErrorPasses d.shape.table) own (passes_of d c).error;
        lengths = subst (λ o. IfSome o (λ error. HasShortLengths error.desc)) own (lengths_of d c).error;
      }

  -- ---- the document

  pub listing_sound : IsSound (open_api_json (document_listing ds configured info))
  listing_sound = document_sound (document_listing ds configured info) (record {
    paths = (
      items_sound (paths_in_order ds),
      subst AreDistinct (sym (names_kept (path_item_of (errors_of ds) ds) (paths_in_order ds)))
          (AreDistinct-sorted (paths_in_order ds) (texts_ascend (map path_of ds))),
    );
    responses = by_name_sound IsSoundResponse (map error_entry (errors_of ds))
        (entries_sound (errors_of ds) (each_error IsFineError ds error_fine));
    schemas = by_name_sound IsSound (flat_map schema_entries ds)
        (each_joined schema_entries (λ entry. IsSound entry.1) ds
        (λ d c. definitions_sound d.shape.table (passes_of d c).table (lengths_of d c).table _ d.shape.table
        (λ e k. k)));
  })
