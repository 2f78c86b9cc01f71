-- The parameters that are listed for the fields of a struct hold exactly where the struct is denoted.
use Rattle.std.proofs.Common.{◌≡◌, ◌↔◌, ℕ, Bool, false, List, is_ok, codes, sym, ◌∙◌, ap}
use Rattle.std.proofs.lemmas.List.Folds.{list_all-map}
use Rattle.std.specs.List.{list_all}
use Rattle.schema_values.specs.declared.json_value.Json.{Json}
use Rattle.schema_values.specs.Order.{sorted_by}
use Rattle.request_words.specs.declared.request.WireRequest.{WireRequest}
use Rattle.request_words.specs.Pairs.{query_pairs}
use Rattle.openapi_values.specs.Listed.{listed_holds}
use Rattle.openapi_values.specs.TextAdmits.{text_admitted}
use Rattle.descriptors.specs.declared.desc.Desc.{Desc}
use Rattle.descriptors.specs.declared.desc.Field.{Field}
use Rattle.descriptors.specs.declared.table.Definition.{Definition}
use Rattle.descriptors.specs.declared.tree.Tree.{Tree}
use Rattle.descriptors.specs.Definitions.{field_name}
use Rattle.typed_values.specs.Schemas.{in_header, in_query}
use Rattle.typed_values.specs.SchemaTable.{schema_json}
use Rattle.flat_maps.specs.declared.repeats.Repeats.TheVariants.{Refuse}
use Rattle.flat_maps.specs.Flat.{under_struct, fields_told, looked_up, flat_told, FlatDenotes}
use Rattle.flat_maps.specs.Maps.{map_values}
use Rattle.flat_maps.specs.Pairs.{pairs_fields, pairs_told, PairsDenote}
use Rattle.written_schemas.proofs.CallerLemmas.{all_sorted}
use Rattle.written_texts.specs.FieldParameters.{parameter_of, field_parameters, path_parameters, query_parameters, header_parameters, AllHold, AllRequired}
use Rattle.written_texts.specs.FlatStructs.{IsFlatStruct, DefinesFields}
use Rattle.header_texts.specs.HeaderTexts.{header_told, headers_told, HeadersDenote}
use Rattle.written_texts.proofs.FlatFields.{field_written}
use Rattle.written_texts.proofs.Places.{pairs_told_where, variables_told_where, lines_told_where}
use Rattle.written_texts.proofs.Whole.{plain_texts, header_texts, query_texts, holds_where}

-- the order of names does not count
pub listed_fields : (doc : Json) (request : WireRequest) (in_pages : Bool) (place : List ℕ) (shown : Desc → Desc) (table : List Definition) (fs : List Field)
    → list_all (listed_holds doc request in_pages) (field_parameters place shown table fs) ≡ list_all (λ f. listed_holds doc request in_pages (parameter_of place shown table f)) fs
listed_fields doc request in_pages place shown table fs =
    list_all-map (listed_holds doc request in_pages) (parameter_of place shown table) (sorted_by field_name fs)
    ∙ all_sorted field_name (λ f. listed_holds doc request in_pages (parameter_of place shown table f)) fs

module _ (doc : Json) (table : List Definition) (desc : Desc) (fs : List Field) (flat : IsFlatStruct table desc fs) (defines : DefinesFields doc table fs) (request : WireRequest) where
  pub path_told : (in_pages : Bool) → AllRequired fs
      → list_all (listed_holds doc request in_pages) (path_parameters table fs) ≡ is_ok (flat_told table (map_values (λ value. value) request.variables) desc)
  path_told in_pages required =
      listed_fields doc request in_pages (codes "path") (λ d. d) table fs
      ∙ variables_told_where table (λ f. text_admitted doc (schema_json table f.desc)) fs (λ f c. plain_texts doc table f.desc (field_written table desc fs flat doc defines f c) (flat.scalar f c)) request.variables required flat.scalar
      ∙ ap (λ o. is_ok (under_struct (fields_told (looked_up table (map_values (λ value. value) request.variables))) o)) (sym flat.has_fields)

  pub query_told : list_all (listed_holds doc request false) (query_parameters table fs) ≡ is_ok (pairs_told table Refuse (query_pairs request.query) desc)
  query_told =
      listed_fields doc request false (codes "query") in_query table fs
      ∙ pairs_told_where table (λ f. text_admitted doc (schema_json table (in_query f.desc))) fs (λ f c. query_texts doc table f.desc (field_written table desc fs flat doc defines f c) (flat.scalar f c)) (query_pairs request.query)
      ∙ ap (λ o. is_ok (under_struct (pairs_fields table Refuse (query_pairs request.query)) o)) (sym flat.has_fields)

  pub header_lines_told : (in_pages : Bool) → list_all (listed_holds doc request in_pages) (header_parameters table fs) ≡ is_ok (headers_told table request.headers desc)
  header_lines_told in_pages =
      listed_fields doc request in_pages (codes "header") in_header table fs
      ∙ lines_told_where table (λ f. text_admitted doc (schema_json table (in_header f.desc))) fs (λ f c. header_texts doc table f.desc (field_written table desc fs flat doc defines f c) (flat.scalar f c)) request.headers
      ∙ ap (λ o. is_ok (under_struct (fields_told (header_told table request.headers)) o)) (sym flat.has_fields)

  pub variables_are : (in_pages : Bool) → AllRequired fs
      → AllHold doc request in_pages (path_parameters table fs) ↔ ((tree : Tree) × FlatDenotes table desc (map_values (λ value. value) request.variables) tree)
  variables_are in_pages required = holds_where _ (flat_told table (map_values (λ value. value) request.variables) desc) (path_told in_pages required)

  pub queries_are : AllHold doc request false (query_parameters table fs) ↔ ((tree : Tree) × PairsDenote table desc Refuse (query_pairs request.query) tree)
  queries_are = holds_where _ (pairs_told table Refuse (query_pairs request.query) desc) query_told

  pub headers_are : (in_pages : Bool) → AllHold doc request in_pages (header_parameters table fs) ↔ ((tree : Tree) × HeadersDenote table desc request.headers tree)
  headers_are in_pages = holds_where _ (headers_told table request.headers desc) (header_lines_told in_pages)
