-- The parameters of an endpoint: the fields of its slots, slot by slot, and in each slot in the order of their names;
-- and the body where its slot stands (OpenAPI 3.0.3, Parameter Object and Request Body Object; the order is this
-- project's own).
use Rattle.std.specs.Prelude.{ℕ, true, false, List, [], ◌∷◌, map, Some, None, codes}
use Rattle.std.specs.List.{flat_map}
use Rattle.schema_values.specs.Order.{sorted_by}
use Rattle.descriptors.specs.declared.desc.Desc.{Desc, Text as Words}
use Rattle.descriptors.specs.declared.desc.Field.{Field}
use Rattle.descriptors.specs.declared.table.Definition.{Definition}
use Rattle.descriptors.specs.Definitions.{field_name}
use Rattle.typed_values.specs.Schemas.{definition_value, in_header, in_query, schema_value}
use Rattle.written_texts.specs.FieldParameters.{is_required}
use Rattle.written_texts.specs.PageParameters.{limit_field, token_field}
use Rattle.request_parts.specs.declared.content_type.ApiEndpointBodyContentType.{ApiEndpointBodyContentType}
use Rattle.request_parts.specs.declared.content_type.ApiEndpointBodyContentType.TheVariants.{Bytes}
use Rattle.handler_shapes.specs.declared.slot.Slot.{Slot}
use Rattle.handler_shapes.specs.declared.slot.Slot.TheVariants as slot
use Rattle.endpoint_metadata.specs.declared.parameter.ApiEndpointParameterLocation.{ApiEndpointParameterLocation}
use Rattle.endpoint_metadata.specs.declared.parameter.ApiEndpointParameterLocation.TheVariants as location
use Rattle.endpoint_metadata.specs.declared.parameter.ApiEndpointParameterMetadata.{ApiEndpointParameterMetadata}
use Rattle.endpoint_metadata.specs.declared.parameter.ApiEndpointParameterMetadata.TheVariants.{Path, Query, Header}
use Rattle.endpoint_metadata.specs.declared.parameter.ApiEndpointParameterMetadata.TheVariants.{Body}
use Rattle.endpoint_metadata.specs.Structs.{listed_fields}
use Rattle.endpoint_metadata.specs.Values.{GeneratorValue, of_type, beside, SchemasInOrder, ParameterValue}

-- a name in a place
abbrev pub named_in : ApiEndpointParameterLocation → List ℕ → ApiEndpointParameterMetadata
named_in location.Path name = Path name
named_in location.Query name = Query name
named_in location.Header name = Header name

-- what is written in a place for a type: in a query an option over a reference as the reference alone, and in headers
-- an option as what it is over
abbrev pub written_in : ApiEndpointParameterLocation → Desc → Desc
written_in location.Path = λ desc. desc
written_in location.Query = in_query
written_in location.Header = in_header

-- the definitions of a table as schemas, with their descriptions, in order
abbrev pub table_schemas : List Definition → SchemasInOrder
table_schemas table = map (λ e. (e.name, definition_value table e)) table

-- a field as a parameter of a place
abbrev pub field_parameter : ApiEndpointParameterLocation → List Definition → Field → ParameterValue
field_parameter place table f = record {
  metadata = named_in place f.name;
  description = f.description;
  required = is_required f.presence;
  schema = beside (schema_value table (written_in place f.desc)) (table_schemas table);
  examples = [];
}

-- all fields, in the order of their names
abbrev pub listed_struct : ApiEndpointParameterLocation → List Definition → List Field → List ParameterValue
listed_struct place table fields = map (field_parameter place table) (sorted_by field_name fields)

-- a field of a query in pages, none of which must be there
abbrev pub page_parameter : List Definition → Field → ParameterValue
page_parameter table f = record (field_parameter location.Query table f) { required = false }

-- `limit`, `page_token` and the fields of what is scanned, in the order of their names
abbrev pub listed_pages : List Definition → List Field → List ParameterValue
listed_pages table fields = map (page_parameter table) (sorted_by field_name (limit_field ∷ token_field ∷ fields))

-- a body, which must be there
abbrev pub body_parameter : ApiEndpointBodyContentType → GeneratorValue → ParameterValue
body_parameter kind schema = record {
  metadata = Body kind;
  description = None;
  required = true;
  schema = schema;
  examples = [];
}

-- any bytes (OpenAPI 3.0.3, Considerations for File Uploads)
abbrev pub binary_type : Desc
binary_type = Words None None (Some (codes "binary"))

-- a body of any bytes
abbrev pub bytes_parameter : List Definition → ParameterValue
bytes_parameter table = body_parameter Bytes (beside (schema_value table binary_type) [])

-- the parameters of a slot: a typed body is of the endpoint's kind, and one that is not decoded is bytes; of pages what
-- they scan is told, but not what selects a later page
abbrev pub slot_listed : ApiEndpointBodyContentType → List Definition → Slot → List ParameterValue
slot_listed kind table (slot.Path desc) = listed_struct location.Path table (listed_fields table desc)
slot_listed kind table (slot.Query desc) = listed_struct location.Query table (listed_fields table desc)
slot_listed kind table (slot.Header desc) = listed_struct location.Header table (listed_fields table desc)
slot_listed kind table (slot.PagedQuery scan selector selector_table) = listed_pages table (listed_fields table scan)
slot_listed kind table (slot.TypedBody desc name) = body_parameter kind (of_type name (schema_value table desc)) ∷ []
slot_listed kind table slot.RawBody = bytes_parameter table ∷ []
slot_listed kind table slot.StreamBody = bytes_parameter table ∷ []

-- those of all slots in turn
abbrev pub listed_parameters : ApiEndpointBodyContentType → List Definition → List Slot → List ParameterValue
listed_parameters kind table = flat_map (slot_listed kind table)
