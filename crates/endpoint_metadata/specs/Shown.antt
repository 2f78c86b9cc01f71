-- What a document shows of the parameters of an endpoint (OpenAPI 3.0.3, Operation Object, Parameter Object and Request
-- Body Object).
use Rattle.std.specs.Prelude.{ℕ, Bool, true, List, [], ◌∷◌, Option, Some, None, codes, filter_map}
use Rattle.std.specs.List.{flat_map}
use Rattle.schema_values.specs.declared.json_value.Json.{Json, Object, Text as Words}
use Rattle.schema_values.specs.Member.{member}
use Rattle.openapi_values.specs.SchemaJson.{schema_json as json_written}
use Rattle.openapi_values.specs.declared.media.RequestBody.{RequestBody}
use Rattle.openapi_values.specs.declared.parameter.Parameter.{Parameter}
use Rattle.descriptors.specs.declared.table.Definition.{Definition}
use Rattle.typed_values.specs.SchemaTable.{schema_json_titled}
use Rattle.written_texts.specs.FieldParameters.{header_parameters, path_parameters, query_parameters}
use Rattle.written_texts.specs.PageParameters.{page_parameters}
use Rattle.request_parts.specs.ContentTypes.{mime_of}
use Rattle.request_parts.specs.declared.content_type.ApiEndpointBodyContentType.{ApiEndpointBodyContentType}
use Rattle.request_parts.specs.declared.content_type.ApiEndpointBodyContentType.TheVariants.{Bytes}
use Rattle.handler_shapes.specs.declared.slot.Slot.{Slot}
use Rattle.handler_shapes.specs.declared.slot.Slot.TheVariants as slot
use Rattle.endpoint_metadata.specs.declared.parameter.ApiEndpointParameter.{ApiEndpointParameter}
use Rattle.endpoint_metadata.specs.declared.parameter.ApiEndpointParameterMetadata.{ApiEndpointParameterMetadata}
use Rattle.endpoint_metadata.specs.declared.parameter.ApiEndpointParameterMetadata.TheVariants.{Path, Query, Header}
use Rattle.endpoint_metadata.specs.declared.parameter.ApiEndpointParameterMetadata.TheVariants.{Body}
use Rattle.endpoint_metadata.specs.Structs.{listed_fields}
use Rattle.endpoint_metadata.specs.Values.{GeneratorValue, of_type, beside, ParameterValue, parameter_values}

-- how a schema is written; that of a type has the name of the type as title, unless it is a reference
abbrev pub shown_schema : GeneratorValue → Json
shown_schema (of_type name schema) = json_written (Some name) schema
shown_schema (beside schema definitions) = json_written None schema

-- a parameter of a name in a place
abbrev pub named_parameter : List ℕ → List ℕ → ParameterValue → Parameter
named_parameter place name p = record {
  location = place;
  name = name;
  description = p.description;
  required = p.required;
  schema = shown_schema p.schema;
}

-- the parameter that is shown; a body is none
abbrev pub shown : ParameterValue → Option Parameter
shown p = by_place p.metadata where
  by_place : ApiEndpointParameterMetadata → Option Parameter
  by_place (Path name) = Some (named_parameter (codes "path") name p)
  by_place (Query name) = Some (named_parameter (codes "query") name p)
  by_place (Header name) = Some (named_parameter (codes "header") name p)
  by_place (Body kind) = None

-- a body of a kind, under its media type
abbrev pub body_under : ApiEndpointBodyContentType → Bool → Json → RequestBody
body_under kind required schema =
    record { content = (mime_of kind, record { schema = schema }) ∷ []; required = required }

-- the body that is shown; what has a name is none
abbrev pub shown_body : ParameterValue → Option RequestBody
shown_body p = by_place p.metadata where
  by_place : ApiEndpointParameterMetadata → Option RequestBody
  by_place (Body kind) = Some (body_under kind p.required (shown_schema p.schema))
  by_place (Path name) = None
  by_place (Query name) = None
  by_place (Header name) = None

-- the parameters that are shown of what is told
abbrev pub shown_parameters : List ApiEndpointParameter → List Parameter
shown_parameters told = filter_map shown (parameter_values told)

-- and the bodies
abbrev pub shown_bodies : List ApiEndpointParameter → List RequestBody
shown_bodies told = filter_map shown_body (parameter_values told)

-- the parameters of a slot in a document; a body is none, and of pages what they scan is shown, but not what selects a
-- later page
abbrev pub slot_documented : List Definition → Slot → List Parameter
slot_documented table (slot.Path desc) = path_parameters table (listed_fields table desc)
slot_documented table (slot.Query desc) = query_parameters table (listed_fields table desc)
slot_documented table (slot.Header desc) = header_parameters table (listed_fields table desc)
slot_documented table (slot.PagedQuery scan selector selector_table) = page_parameters table (listed_fields table scan)
slot_documented table (slot.TypedBody desc name) = []
slot_documented table slot.RawBody = []
slot_documented table slot.StreamBody = []

-- those of all slots in turn
abbrev pub documented_parameters : List Definition → List Slot → List Parameter
documented_parameters table = flat_map (slot_documented table)

-- the schema of bytes (OpenAPI 3.0.3, Considerations for File Uploads)
abbrev pub binary_schema : Json
binary_schema =
    Object (member (codes "type") (Words (codes "string")) ∷ member (codes "format") (Words (codes "binary")) ∷ [])

-- any bytes, whatever the request's media type
abbrev pub binary_body : RequestBody
binary_body = body_under Bytes true binary_schema

-- the body of a slot in a document: a typed one under the endpoint's media type, with the name of its type as title
-- unless it is a reference; a raw one and a stream are bytes
abbrev pub body_documented : ApiEndpointBodyContentType → List Definition → Slot → Option RequestBody
body_documented kind table (slot.TypedBody desc name) = Some (body_under kind true (schema_json_titled table name desc))
body_documented kind table slot.RawBody = Some binary_body
body_documented kind table slot.StreamBody = Some binary_body
body_documented kind table (slot.Path desc) = None
body_documented kind table (slot.Query desc) = None
body_documented kind table (slot.Header desc) = None
body_documented kind table (slot.PagedQuery scan selector selector_table) = None

-- those of all slots in turn
abbrev pub documented_bodies : ApiEndpointBodyContentType → List Definition → List Slot → List RequestBody
documented_bodies kind table = filter_map (body_documented kind table)
