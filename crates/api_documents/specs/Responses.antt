-- The responses of an operation (OpenAPI 3.0.3, Responses Object, Response Object and Header Object).
use Rattle.std.specs.Prelude.{ℕ, List, [], ◌∷◌, ◌++◌, map, Option, Some, None, codes}
use Rattle.std.specs.Fmt.{decimal}
use Rattle.std.specs.Option.{option_map_or}
use Rattle.schema_values.specs.declared.json_value.Json.{Object}
use Rattle.openapi_values.specs.declared.media.MediaType.{MediaType}
use Rattle.openapi_values.specs.declared.media.ResponseObject.{ResponseObject}
use Rattle.openapi_values.specs.declared.parameter.HeaderObject.{HeaderObject}
use Rattle.openapi_values.specs.declared.parameter.Parameter.{Parameter}
use Rattle.descriptors.specs.declared.desc.Desc.{Desc}
use Rattle.descriptors.specs.declared.table.Definition.{Definition}
use Rattle.typed_values.specs.SchemaTable.{schema_json_titled}
use Rattle.written_texts.specs.FieldParameters.{query_parameters}
use Rattle.handler_shapes.specs.declared.shape.ApiEndpointResponse.{ApiEndpointResponse}
use Rattle.handler_shapes.specs.declared.shape.ContentShape.{ContentShape}
use Rattle.handler_shapes.specs.declared.shape.ContentShape.TheVariants as contents
use Rattle.handler_shapes.specs.declared.shape.HandlerShape.{HandlerShape}
use Rattle.endpoint_metadata.specs.Structs.{listed_fields}
use Rattle.api_documents.specs.Bodies.{media}
use Rattle.api_documents.specs.ErrorNames.{NamedErrorValue, listed_error, name_of_error}

-- a header of a response, described, required and written as a parameter of a query
abbrev pub header_of : Parameter → List ℕ × HeaderObject
header_of p = (
  p.name,
  record {
    description = p.description;
    style = codes "simple";
    required = p.required;
    schema = p.schema;
  },
)

-- the headers of a response, in the order of their names
abbrev pub headers_of : List Definition → Option Desc → List (List ℕ × HeaderObject)
headers_of table None = []
headers_of table (Some desc) = map header_of (query_parameters table (listed_fields table desc))

-- the content of a success: JSON, with the name of its type as title unless it is a reference; none; or anything
abbrev pub content_of : List Definition → ContentShape → List (List ℕ × MediaType)
content_of table (contents.Json desc name) = media (codes "application/json") (schema_json_titled table name desc)
content_of table contents.Empty = []
content_of table contents.Freeform = media (codes "*/*") (Object [])

-- the response of a success, in full
abbrev pub success_of : List Definition → ApiEndpointResponse → ResponseObject
success_of table response = record {
  description = Some response.description;
  headers = headers_of table response.headers;
  content = content_of table response.content;
  reference = None;
}

-- the response of an error, by reference to that of a name (OpenAPI 3.0.3, Reference Object)
abbrev pub reference_to : List ℕ → ResponseObject
reference_to name = record {
  description = None;
  headers = [];
  content = [];
  reference = Some (codes "#/components/responses/" ++ name);
}

-- an error as the response of the statuses 400 to 499, and of 500 to 599
abbrev pub error_responses : List ℕ → List (List ℕ × ResponseObject)
error_responses name = (codes "4XX", reference_to name) ∷ (codes "5XX", reference_to name) ∷ []

-- the success under its code, or as `default` where it has none
abbrev pub code_text : Option ℕ → List ℕ
code_text None = codes "default"
code_text (Some code) = decimal code

-- the success, and behind it the error that is listed, under its name in the document
abbrev pub responses_of : List NamedErrorValue → HandlerShape → List (List ℕ × ResponseObject)
responses_of named shape =
    (code_text shape.response.success, success_of shape.table shape.response)
    ∷ option_map_or (λ error. error_responses (name_of_error named error)) (listed_error shape) []
