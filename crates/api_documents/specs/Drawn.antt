-- The descriptors of which the schemas of an operation are drawn (OpenAPI 3.0.3, Schema Object).
use Rattle.std.specs.Prelude.{◌≡◌, ℕ, List, [], Some, Contains}
use Rattle.descriptors.specs.declared.desc.Desc.{Desc}
use Rattle.descriptors.specs.declared.desc.Field.{Field}
use Rattle.descriptors.specs.declared.table.Definition.{Definition}
use Rattle.typed_values.specs.Schemas.{in_header, in_query}
use Rattle.handler_shapes.specs.declared.shape.ApiEndpointErrorResponse.{ApiEndpointErrorResponse}
use Rattle.handler_shapes.specs.declared.shape.ContentShape.TheVariants as contents
use Rattle.handler_shapes.specs.declared.shape.HandlerShape.{HandlerShape}
use Rattle.handler_shapes.specs.declared.slot.Slot.{Slot}
use Rattle.handler_shapes.specs.declared.slot.Slot.TheVariants.{Path, Query, Header, PagedQuery, TypedBody, RawBody}
use Rattle.handler_shapes.specs.declared.slot.Slot.TheVariants.{StreamBody}
use Rattle.endpoint_metadata.specs.Structs.{listed_fields}
use Rattle.api_documents.specs.ErrorNames.{listed_error}

-- the fields that a slot is shown as; a body is no parameter
abbrev pub shown_fields : List Definition → Slot → List Field
shown_fields table (Path desc) = listed_fields table desc
shown_fields table (Query desc) = listed_fields table desc
shown_fields table (Header desc) = listed_fields table desc
shown_fields table (PagedQuery scan selector selector_table) = listed_fields table scan
shown_fields table (TypedBody desc name) = []
shown_fields table RawBody = []
shown_fields table StreamBody = []

-- what stands in a parameter of a slot in the place of a field's type
abbrev pub shown_as : Slot → Desc → Desc
shown_as (Path desc) d = d
shown_as (Query desc) d = in_query d
shown_as (Header desc) d = in_header d
shown_as (PagedQuery scan selector selector_table) d = in_query d
shown_as (TypedBody desc name) d = d
shown_as RawBody d = d
shown_as StreamBody d = d

-- The descriptors from which the schemas of an operation lead to definitions: that of a typed body; the type of a
-- parameter, and what is written in its place; that of the content of the success; the type of one of its headers, and
-- what is written in its place; and that of the error that is listed.
pub data IsDrawn (shape : HandlerShape) : Desc → Type 0 where
  as_body : (desc : Desc) (name : List ℕ) → Contains shape.slots (TypedBody desc name) → IsDrawn shape desc
  as_parameter : (slot : Slot) (field : Field) → Contains shape.slots slot
      → Contains (shown_fields shape.table slot) field → IsDrawn shape field.desc
  in_parameter : (slot : Slot) (field : Field) → Contains shape.slots slot
      → Contains (shown_fields shape.table slot) field → IsDrawn shape (shown_as slot field.desc)
  as_content : (desc : Desc) (name : List ℕ) → shape.response.content ≡ contents.Json desc name → IsDrawn shape desc
  as_header : (desc : Desc) (field : Field) → shape.response.headers ≡ Some desc
      → Contains (listed_fields shape.table desc) field → IsDrawn shape field.desc
  in_response_header : (desc : Desc) (field : Field) → shape.response.headers ≡ Some desc
      → Contains (listed_fields shape.table desc) field → IsDrawn shape (in_query field.desc)
  as_error : (error : ApiEndpointErrorResponse) → listed_error shape ≡ Some error → IsDrawn shape error.desc
