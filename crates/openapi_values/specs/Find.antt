-- What a document's types hold, by names: the first of each name.
use Rattle.std.specs.Prelude.{ℕ, List, Option, None, option_map, option_and_then, find, bytes_eq, codes, if◌then◌else◌}
use Rattle.openapi_values.specs.declared.document.OpenApi.{OpenApi}
use Rattle.openapi_values.specs.declared.media.ResponseObject.{ResponseObject}
use Rattle.openapi_values.specs.declared.operation.Operation.{Operation}
use Rattle.openapi_values.specs.declared.operation.PathItem.{PathItem}
use Rattle.schema_values.specs.declared.json_value.Json.{Json}

-- the value of the first pair of a name
abbrev pub value_at : {X : Type 0} → List ℕ → List (List ℕ × X) → Option X
value_at name pairs = option_map (λ pair. pair.1) (find (λ pair. bytes_eq name pair.0) pairs)

-- a path's operation, by the method in upper case
abbrev pub method_of : List ℕ → PathItem → Option Operation
method_of method item =
    if bytes_eq (codes "GET") method then item.get else
    (if bytes_eq (codes "PUT") method then item.put else
    (if bytes_eq (codes "POST") method then item.post else
    (if bytes_eq (codes "DELETE") method then item.delete else
    (if bytes_eq (codes "OPTIONS") method then item.options else
    (if bytes_eq (codes "HEAD") method then item.head else
    (if bytes_eq (codes "PATCH") method then item.patch else
    (if bytes_eq (codes "TRACE") method then item.trace else
    None)))))))

-- the operation of a path and a method
abbrev pub operation_in : OpenApi → List ℕ → List ℕ → Option Operation
operation_in document path method = option_and_then (method_of method) (value_at path document.paths)

-- the schema of a name among the components
abbrev pub definition_in : OpenApi → List ℕ → Option Json
definition_in document name = value_at name document.components.schemas

-- the response of a name among the components
abbrev pub response_in : OpenApi → List ℕ → Option ResponseObject
response_in document name = value_at name document.components.responses
