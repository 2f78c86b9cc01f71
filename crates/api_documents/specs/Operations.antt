-- The operations of a document (OpenAPI 3.0.3, Paths Object, Path Item Object and Operation Object). `ds` are the
-- endpoints that the document lists, and `named` the errors of the document under their names.
use Rattle.std.specs.Prelude.{ℕ, List, map, Option, option_map, codes}
use Rattle.openapi_values.specs.declared.operation.Operation.{Operation}
use Rattle.openapi_values.specs.declared.operation.PathItem.{PathItem}
use Rattle.api_declarations.specs.Values.{DeclarationValue}
use Rattle.endpoint_metadata.specs.Modes.{first_asked}
use Rattle.endpoint_metadata.specs.Shown.{documented_parameters}
use Rattle.api_documents.specs.Bodies.{body_of}
use Rattle.api_documents.specs.ErrorNames.{NamedErrorValue}
use Rattle.api_documents.specs.Listed.{endpoint_of, paths_in_order}
use Rattle.api_documents.specs.Responses.{responses_of}

-- the operation that an endpoint is listed as; its extension `x-dropshot-pagination` has the names that a request for
-- the first page must have
abbrev pub operation_of : List NamedErrorValue → DeclarationValue → Operation
operation_of named d = record {
  tags = d.tags;
  summary = d.summary;
  description = d.description;
  operation_id = d.operation_id;
  parameters = documented_parameters d.shape.table d.shape.slots;
  request_body = body_of d.body_content_type d.shape.table d.shape.slots;
  responses = responses_of named d.shape;
  deprecated = d.deprecated;
  pagination = first_asked d.shape.table d.shape.slots;
}

-- the operation of a path and a method
abbrev pub operation_at : List NamedErrorValue → List DeclarationValue → List ℕ → List ℕ → Option Operation
operation_at named ds path method = option_map (operation_of named) (endpoint_of ds path method)

-- the operations of a path, of each method by its name
abbrev pub path_item_by : (List ℕ → Option Operation) → PathItem
path_item_by operation = record {
  get = operation (codes "GET");
  put = operation (codes "PUT");
  post = operation (codes "POST");
  delete = operation (codes "DELETE");
  options = operation (codes "OPTIONS");
  head = operation (codes "HEAD");
  patch = operation (codes "PATCH");
  trace = operation (codes "TRACE");
}

-- the operations of a path, one for each method by which it is served
abbrev pub path_item_of : List NamedErrorValue → List DeclarationValue → List ℕ → PathItem
path_item_of named ds path = path_item_by (operation_at named ds path)

-- each path with its operations
abbrev pub path_items : List NamedErrorValue → List DeclarationValue → List (List ℕ × PathItem)
path_items named ds = map (λ path. (path, path_item_of named ds path)) (paths_in_order ds)
