-- How an operation and its parts are written (OpenAPI 3.0.3, from Path Item Object on).
use Rattle.std.specs.Prelude.{ℕ, List, [], ◌∷◌, map, Option, Some, option_map, codes}
use Rattle.std.specs.Option.{option_map_or}
use Rattle.schema_values.specs.declared.json_value.Json.{Json, Text, List as ListOf}
use Rattle.openapi_values.specs.declared.media.MediaType.{MediaType}
use Rattle.openapi_values.specs.declared.media.RequestBody.{RequestBody}
use Rattle.openapi_values.specs.declared.media.ResponseObject.{ResponseObject}
use Rattle.openapi_values.specs.declared.operation.Operation.{Operation}
use Rattle.openapi_values.specs.declared.operation.PathItem.{PathItem}
use Rattle.openapi_values.specs.IfTrue.{if_true}
use Rattle.openapi_values.specs.Objects.{Entry, object_of, reference_json, list_unless_empty, map_members, unless_empty}
use Rattle.openapi_values.specs.Parameters.{parameter_json, header_json}

-- the schema, always
abbrev pub media_type_entries : MediaType → List Entry
media_type_entries media = (codes "schema", Some media.schema) ∷ []

-- the content of one media type (OpenAPI 3.0.3, Media Type Object)
abbrev pub media_type_json : MediaType → Json
media_type_json media = object_of (media_type_entries media)

-- the contents by media type, left out where there are none
abbrev pub content_json : List (List ℕ × MediaType) → Option Json
content_json content = unless_empty (map_members media_type_json content)

-- the contents, and `required` where it is true
abbrev pub request_body_entries : RequestBody → List Entry
request_body_entries body = (codes "content", content_json body.content) ∷ (codes "required", if_true body.required) ∷ []

-- the body of a request (OpenAPI 3.0.3, Request Body Object)
unfoldable pub request_body_json : RequestBody → Json
request_body_json body = object_of (request_body_entries body)

-- its description, its headers and its contents, where it has them
abbrev pub described_entries : ResponseObject → List Entry
described_entries response =
    (codes "description", option_map Text response.description) ∷ (codes "headers", unless_empty (map_members header_json response.headers)) ∷ (codes "content", content_json response.content) ∷ []

-- a response in full
unfoldable pub described_json : ResponseObject → Json
described_json response = object_of (described_entries response)

-- a reference stands alone
abbrev pub response_json : ResponseObject → Json
response_json response = option_map_or reference_json response.reference (described_json response)

-- the names that the first request for a page must have, as a list that always stands
abbrev pub pagination_json : List (List ℕ) → Json
pagination_json names = object_of ((codes "required", Some (ListOf (map Text names))) ∷ [])

-- the members of an operation, in their order; the id stands always, a truth value where it is true, a list or a map where it is not empty
abbrev pub operation_entries : Operation → List Entry
operation_entries operation =
    (codes "tags", list_unless_empty (map Text operation.tags))
    ∷ (codes "summary", option_map Text operation.summary)
    ∷ (codes "description", option_map Text operation.description)
    ∷ (codes "operationId", Some (Text operation.operation_id))
    ∷ (codes "parameters", list_unless_empty (map parameter_json operation.parameters))
    ∷ (codes "requestBody", option_map request_body_json operation.request_body)
    ∷ (codes "responses", unless_empty (map_members response_json operation.responses))
    ∷ (codes "deprecated", if_true operation.deprecated)
    ∷ (codes "x-dropshot-pagination", option_map pagination_json operation.pagination)
    ∷ []

-- one operation (OpenAPI 3.0.3, Operation Object)
unfoldable pub operation_json : Operation → Json
operation_json operation = object_of (operation_entries operation)

-- the operation of each method that has one
abbrev pub path_item_entries : PathItem → List Entry
path_item_entries item =
    (codes "get", option_map operation_json item.get)
    ∷ (codes "put", option_map operation_json item.put)
    ∷ (codes "post", option_map operation_json item.post)
    ∷ (codes "delete", option_map operation_json item.delete)
    ∷ (codes "options", option_map operation_json item.options)
    ∷ (codes "head", option_map operation_json item.head)
    ∷ (codes "patch", option_map operation_json item.patch)
    ∷ (codes "trace", option_map operation_json item.trace)
    ∷ []

-- the operations of one path (OpenAPI 3.0.3, Path Item Object)
unfoldable pub path_item_json : PathItem → Json
path_item_json item = object_of (path_item_entries item)
