-- The bodies that an operation of a document takes.
use Rattle.std.specs.Prelude.{◌≡◌, ℕ, List, [], Some, None, codes}
use Rattle.openapi_values.specs.declared.document.OpenApi.{OpenApi}
use Rattle.openapi_values.specs.declared.media.MediaType.{MediaType}
use Rattle.openapi_values.specs.declared.media.RequestBody.{RequestBody}
use Rattle.openapi_values.specs.declared.operation.Operation.{Operation}
use Rattle.openapi_values.specs.Find.{value_at, operation_in}
use Rattle.descriptors.specs.declared.desc.Desc.{Desc}
use Rattle.descriptors.specs.declared.table.Definition.{Definition}
use Rattle.typed_values.specs.SchemaTable.{schema_json_titled}

-- the operation of a path and a method does not answer in pages, has no parameters, takes no octet stream, and takes JSON
-- under the schema of a descriptor, which has a name
pub record TakesJson (document : OpenApi) (path method name : List ℕ) (table : List Definition) (desc : Desc) : Type 0 where
  pub operation : Operation
  pub listed : operation_in document path method ≡ Some operation
  pub not_paged : operation.pagination ≡ None
  pub no_parameter : operation.parameters ≡ []
  pub body : RequestBody
  pub has_body : operation.request_body ≡ Some body
  pub media : MediaType
  pub under_json : value_at (codes "application/json") body.content ≡ Some media
  pub no_bytes : value_at (codes "application/octet-stream") body.content ≡ None
  pub schema_is : media.schema ≡ schema_json_titled table name desc
