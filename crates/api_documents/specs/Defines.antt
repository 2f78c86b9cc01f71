-- What it is for an operation to lead to the response of its error, and to the definitions of its schemas (OpenAPI
-- 3.0.3, Responses Object, Reference Object and Components Object).
use Rattle.std.specs.Prelude.{◌≡◌, ℕ, List, Some, codes}
use Rattle.openapi_values.specs.declared.document.OpenApi.{OpenApi}
use Rattle.openapi_values.specs.declared.operation.Operation.{Operation}
use Rattle.openapi_values.specs.Find.{response_in, value_at}
use Rattle.descriptors.specs.declared.desc.Desc.{Desc}
use Rattle.descriptors.specs.declared.table.Definition.{Definition}
use Rattle.typed_values.specs.Reached.{IsReached}
use Rattle.handler_shapes.specs.declared.shape.ApiEndpointErrorResponse.{ApiEndpointErrorResponse}
use Rattle.handler_shapes.specs.declared.shape.HandlerShape.{HandlerShape}
use Rattle.api_documents.specs.Components.{error_object}
use Rattle.api_documents.specs.Drawn.{IsDrawn}
use Rattle.api_documents.specs.Responses.{reference_to}

-- for the statuses 400 to 499, and for 500 to 599, an operation refers to the response of a name
pub record RefersToError (operation : Operation) (name : List ℕ) : Type 0 where
  pub client : value_at (codes "4XX") operation.responses ≡ Some (reference_to name)
  pub server : value_at (codes "5XX") operation.responses ≡ Some (reference_to name)

-- an operation does, and under the name a document has the response of an error, as it is drawn in a table
pub record LeadsToError (document : OpenApi) (operation : Operation) (table : List Definition)
    (error : ApiEndpointErrorResponse) : Type 0 where
  pub name : List ℕ
  pub refers : RefersToError operation name
  pub stands : response_in document name ≡ Some (error_object (record { name = name; table = table; error = error }))

-- a descriptor of which a schema of an operation is drawn leads to the definition of a name
pub record LeadsToDefinition (shape : HandlerShape) (name : List ℕ) : Type 0 where
  pub desc : Desc
  pub drawn : IsDrawn shape desc
  pub reached : IsReached shape.table desc name
