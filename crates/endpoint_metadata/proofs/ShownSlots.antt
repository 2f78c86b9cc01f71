-- What is told of slots shows as what a document has of them.
use Rattle.std.proofs.Common.{◌≡◌, ℕ, pos, Bool, true, false, List, [], ◌∷◌, ◌++◌, map, Option, Some, None, codes, refl}
use Rattle.std.proofs.Common.{sym, ◌∙◌, ap, ap₂}
use Rattle.std.proofs.lemmas.List.Elements.{filter_map-append}
use Rattle.std.specs.List.{cons_option}
use Rattle.std.specs.Prelude.{filter_map}
use Rattle.schema_values.specs.declared.json_value.Json.{Json}
use Rattle.schema_values.specs.Order.{sorted_by}
use Rattle.schema_values.proofs.CallerLemmas.{map_sorted}
use Rattle.openapi_values.specs.SchemaJson.{schema_json as json_written}
use Rattle.openapi_values.specs.declared.media.RequestBody.{RequestBody}
use Rattle.openapi_values.specs.declared.parameter.Parameter.{Parameter}
use Rattle.descriptors.specs.declared.desc.Desc.{Desc, Int, Option as OptionOf, Text as Words}
use Rattle.descriptors.specs.declared.desc.Desc.TheOpen.{Desc-F}
use Rattle.descriptors.specs.declared.desc.Desc.TheVariants as desc
use Rattle.descriptors.specs.declared.desc.Field.{Field}
use Rattle.descriptors.specs.declared.desc.IntKind.TheVariants.{U32}
use Rattle.descriptors.specs.declared.table.Definition.{Definition}
use Rattle.descriptors.specs.Definitions.{field_name}
use Rattle.typed_values.specs.Schemas.{in_header, in_query, schema_value}
use Rattle.typed_values.specs.SchemaTable.{Drawn, drawn, drawn_json, schema_json, schema_json_titled}
use Rattle.written_schemas.proofs.CallerLemmas.{drawn_row}
use Rattle.written_texts.specs.FieldParameters.{is_required, parameter_of}
use Rattle.written_texts.specs.PageParameters.{limit_field, page_parameters as documented_pages, parameter_name}
use Rattle.written_texts.specs.PageParameters.{scan_parameter, token_field}
use Rattle.request_parts.specs.declared.content_type.ApiEndpointBodyContentType.{ApiEndpointBodyContentType}
use Rattle.request_parts.specs.declared.content_type.ApiEndpointBodyContentType.TheVariants.{Bytes}
use Rattle.handler_shapes.specs.declared.slot.Slot.{Slot}
use Rattle.handler_shapes.specs.declared.slot.Slot.TheVariants as slot
use Rattle.endpoint_metadata.specs.declared.parameter.ApiEndpointParameterLocation.TheVariants as location
use Rattle.endpoint_metadata.specs.Parameters.{binary_type, field_parameter, page_parameter, listed_parameters}
use Rattle.endpoint_metadata.specs.Parameters.{slot_listed}
use Rattle.endpoint_metadata.specs.Shown.{binary_schema, body_under, documented_bodies, documented_parameters, shown}
use Rattle.endpoint_metadata.specs.Shown.{body_documented, shown_body, slot_documented}
use Rattle.endpoint_metadata.specs.Structs.{listed_fields}
use Rattle.endpoint_metadata.specs.Values.{ParameterValue}

-- each of some things shows
all_shown : {X Y Z : Type 0} (f : X → Y) (show : Y → Option Z) (g : X → Z) → ((x : X) → show (f x) ≡ Some (g x))
    → (xs : List X) → filter_map show (map f xs) ≡ map g xs
all_shown f show g each [] = refl
all_shown f show g each (x ∷ xs) =
    ap (λ o. cons_option o (filter_map show (map f xs))) (each x) ∙ ap (λ rest. g x ∷ rest) (all_shown f show g each xs)

-- none of some things shows
none_shown : {X Y Z : Type 0} (f : X → Y) (show : Y → Option Z) → ((x : X) → show (f x) ≡ None) → (xs : List X)
    → filter_map show (map f xs) ≡ []
none_shown f show each [] = refl
none_shown f show each (x ∷ xs) =
    ap (λ o. cons_option o (filter_map show (map f xs))) (each x) ∙ none_shown f show each xs

-- a field as a parameter of a document
abbrev as_parameter : List ℕ → Field → Bool → Json → Parameter
as_parameter place f required schema =
    record { location = place; name = f.name; description = f.description; required = required; schema = schema }

-- ---- `limit` and `page_token`, whose types are options that no table counts for
option_anywhere : (table : List Definition) (x : Desc) → drawn table x ≡ drawn [] x
    → schema_json table (OptionOf x) ≡ schema_json [] (OptionOf x)
option_anywhere table x same =
    ap drawn_json (drawn_row table (OptionOf x) (Desc-F.Option x) (desc.outs-Option x)
    ∙ ap (λ (s : Drawn). record s { nullable = true; truth = None }) same
    ∙ sym (drawn_row [] (OptionOf x) (Desc-F.Option x) (desc.outs-Option x)))

abbrev number : Desc
number = Int U32 (Some (pos 1)) None

limit_same : (table : List Definition)
    → scan_parameter table limit_field ≡ parameter_of (codes "query") (λ d. d) [] limit_field
limit_same table =
    let level = Desc-F.Int U32 (Some (pos 1)) None in
    let is = desc.outs-Int U32 (Some (pos 1)) None in
    let itself : in_query (OptionOf number) ≡ OptionOf number = rw (desc.outs-Option number, is) refl in
    ap (as_parameter (codes "query") limit_field false)
    (ap (schema_json table) itself
    ∙ option_anywhere table number (drawn_row table number level is ∙ sym (drawn_row [] number level is)))

abbrev words : Desc
words = Words None None None

token_same : (table : List Definition)
    → scan_parameter table token_field ≡ parameter_of (codes "query") (λ d. d) [] token_field
token_same table =
    let level = Desc-F.Text None None None in
    let is = desc.outs-Text None None None in
    let itself : in_query (OptionOf words) ≡ OptionOf words = rw (desc.outs-Option words, is) refl in
    ap (as_parameter (codes "query") token_field false)
    (ap (schema_json table) itself
    ∙ option_anywhere table words (drawn_row table words level is ∙ sym (drawn_row [] words level is)))

-- ---- the schema of bytes, for which no table counts
binary_same : (table : List Definition) → schema_json table binary_type ≡ binary_schema
binary_same table =
    let level = Desc-F.Text None None (Some (codes "binary")) in
    ap drawn_json (drawn_row table binary_type level (desc.outs-Text None None (Some (codes "binary"))))

-- the parameters of pages in the order of their names
pages_sorted : (table : List Definition) (fields : List Field)
    → map (scan_parameter table) (sorted_by field_name (limit_field ∷ token_field ∷ fields))
    ≡ documented_pages table fields
pages_sorted table fields =
    map_sorted field_name parameter_name (scan_parameter table) (λ f. refl) (limit_field ∷ token_field ∷ fields)
    ∙ ap₂ (λ (limit token : Parameter). sorted_by parameter_name (limit ∷ token ∷ map (scan_parameter table) fields))
    (limit_same table) (token_same table)

module _
    (written : (table : List Definition) (desc : Desc)
    → json_written None (schema_value table desc) ≡ schema_json table desc)
    (titled : (table : List Definition) (desc : Desc) (name : List ℕ)
    → json_written (Some name) (schema_value table desc) ≡ schema_json_titled table name desc)
    (kind : ApiEndpointBodyContentType) (table : List Definition) where
  in_path : (f : Field)
      → shown (field_parameter location.Path table f) ≡ Some (parameter_of (codes "path") (λ d. d) table f)
  in_path f = ap (λ json. Some (as_parameter (codes "path") f (is_required f.presence) json)) (written table f.desc)

  in_a_query : (f : Field)
      → shown (field_parameter location.Query table f) ≡ Some (parameter_of (codes "query") in_query table f)
  in_a_query f =
      ap (λ json. Some (as_parameter (codes "query") f (is_required f.presence) json)) (written table (in_query f.desc))

  in_headers : (f : Field)
      → shown (field_parameter location.Header table f) ≡ Some (parameter_of (codes "header") in_header table f)
  in_headers f =
      ap (λ json. Some (as_parameter (codes "header") f (is_required f.presence) json))
      (written table (in_header f.desc))

  in_pages : (f : Field) → shown (page_parameter table f) ≡ Some (scan_parameter table f)
  in_pages f = ap (λ json. Some (as_parameter (codes "query") f false json)) (written table (in_query f.desc))

  slot_shown : (s : Slot) → filter_map shown (slot_listed kind table s) ≡ slot_documented table s
  slot_shown (slot.Path desc) =
      all_shown (field_parameter location.Path table) shown (parameter_of (codes "path") (λ d. d) table) in_path
      (sorted_by field_name (listed_fields table desc))
  slot_shown (slot.Query desc) =
      all_shown (field_parameter location.Query table) shown (parameter_of (codes "query") in_query table) in_a_query
      (sorted_by field_name (listed_fields table desc))
  slot_shown (slot.Header desc) =
      all_shown (field_parameter location.Header table) shown (parameter_of (codes "header") in_header table) in_headers
      (sorted_by field_name (listed_fields table desc))
  slot_shown (slot.PagedQuery scan selector selector_table) =
      all_shown (page_parameter table) shown (scan_parameter table) in_pages
      (sorted_by field_name (limit_field ∷ token_field ∷ listed_fields table scan))
      ∙ pages_sorted table (listed_fields table scan)
  slot_shown (slot.TypedBody desc name) = refl
  slot_shown slot.RawBody = refl
  slot_shown slot.StreamBody = refl

  -- the parameters of all slots
  pub parameters_shown : (slots : List Slot)
      → filter_map shown (listed_parameters kind table slots) ≡ documented_parameters table slots
  parameters_shown [] = refl
  parameters_shown (s ∷ slots) =
      filter_map-append shown (slot_listed kind table s) (listed_parameters kind table slots)
      ∙ ap (λ (ps : List Parameter). ps ++ filter_map shown (listed_parameters kind table slots)) (slot_shown s)
      ∙ ap (λ (ps : List Parameter). slot_documented table s ++ ps) (parameters_shown slots)

  -- fields show no body
  no_body : (f : Field → ParameterValue) → ((x : Field) → shown_body (f x) ≡ None)
      → (fields : List Field) (rest : List RequestBody) → filter_map shown_body (map f fields) ++ rest ≡ rest
  no_body f none fields rest = ap (λ (bodies : List RequestBody). bodies ++ rest) (none_shown f shown_body none fields)

  bytes_shown : (rest : List RequestBody)
      → body_under Bytes true (json_written None (schema_value table binary_type)) ∷ rest
      ≡ body_under Bytes true binary_schema ∷ rest
  bytes_shown rest =
      ap (λ json. body_under Bytes true json ∷ rest) (written table binary_type ∙ binary_same table)

  body_shown : (s : Slot) (rest : List RequestBody)
      → filter_map shown_body (slot_listed kind table s) ++ rest ≡ cons_option (body_documented kind table s) rest
  body_shown (slot.Path desc) rest =
      no_body (field_parameter location.Path table) (λ f. refl) (sorted_by field_name (listed_fields table desc)) rest
  body_shown (slot.Query desc) rest =
      no_body (field_parameter location.Query table) (λ f. refl) (sorted_by field_name (listed_fields table desc)) rest
  body_shown (slot.Header desc) rest =
      no_body (field_parameter location.Header table) (λ f. refl) (sorted_by field_name (listed_fields table desc)) rest
  body_shown (slot.PagedQuery scan selector selector_table) rest =
      no_body (page_parameter table) (λ f. refl)
      (sorted_by field_name (limit_field ∷ token_field ∷ listed_fields table scan)) rest
  body_shown (slot.TypedBody desc name) rest = ap (λ json. body_under kind true json ∷ rest) (titled table desc name)
  body_shown slot.RawBody rest = bytes_shown rest
  body_shown slot.StreamBody rest = bytes_shown rest

  -- the bodies of all slots
  pub bodies_shown : (slots : List Slot)
      → filter_map shown_body (listed_parameters kind table slots) ≡ documented_bodies kind table slots
  bodies_shown [] = refl
  bodies_shown (s ∷ slots) =
      filter_map-append shown_body (slot_listed kind table s) (listed_parameters kind table slots)
      ∙ body_shown s (filter_map shown_body (listed_parameters kind table slots))
      ∙ ap (cons_option (body_documented kind table s)) (bodies_shown slots)
