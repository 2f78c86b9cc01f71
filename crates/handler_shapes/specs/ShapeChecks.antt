-- That all descriptors of a shape pass their checks.
use Rattle.std.specs.Prelude.{⊤, List, Option, Some, None, All}
use Rattle.descriptors.specs.declared.desc.Desc.{Desc}
use Rattle.descriptors.specs.declared.table.Definition.{Definition}
use Rattle.typed_values.specs.Checks.{TablePasses, DescPasses}
use Rattle.handler_shapes.specs.declared.slot.Slot.{Slot}
use Rattle.handler_shapes.specs.declared.slot.Slot.TheVariants.{Path, Query, Header, PagedQuery, TypedBody, RawBody, StreamBody}
use Rattle.handler_shapes.specs.declared.shape.ApiEndpointErrorResponse.{ApiEndpointErrorResponse}
use Rattle.handler_shapes.specs.declared.shape.ApiEndpointResponse.{ApiEndpointResponse}
use Rattle.handler_shapes.specs.declared.shape.ContentShape.{ContentShape}
use Rattle.handler_shapes.specs.declared.shape.ContentShape.TheVariants.{Json, Empty, Freeform}
use Rattle.handler_shapes.specs.declared.shape.HandlerShape.{HandlerShape}

-- a selector passes with its own table
pub record SelectorPasses (definitions : List Definition) (desc : Desc) : Type 0 where
  pub table : TablePasses definitions
  pub selector : DescPasses definitions desc

-- each descriptor of a slot passes
abbrev pub SlotPasses : List Definition → Slot → Type 0
SlotPasses table (Path desc) = DescPasses table desc
SlotPasses table (Query desc) = DescPasses table desc
SlotPasses table (Header desc) = DescPasses table desc
SlotPasses table (PagedQuery scan selector selector_table) = DescPasses table scan × SelectorPasses selector_table selector
SlotPasses table (TypedBody desc name) = DescPasses table desc
SlotPasses table RawBody = ⊤
SlotPasses table StreamBody = ⊤

-- each descriptor of each slot passes
abbrev pub SlotsPass : List Definition → List Slot → Type 0
SlotsPass table slots = All (SlotPasses table) slots

-- the descriptor of a content passes, where it has one
abbrev pub ContentPasses : List Definition → ContentShape → Type 0
ContentPasses table (Json desc name) = DescPasses table desc
ContentPasses table Empty = ⊤
ContentPasses table Freeform = ⊤

-- the descriptor of the named headers passes, where there are some
abbrev pub HeadersPass : List Definition → Option Desc → Type 0
HeadersPass table None = ⊤
HeadersPass table (Some desc) = DescPasses table desc

-- each descriptor of what a success gives passes
pub record ResponsePasses (table : List Definition) (response : ApiEndpointResponse) : Type 0 where
  pub content : ContentPasses table response.content
  pub headers : HeadersPass table response.headers

-- the descriptor of an error passes, where the shape names one
abbrev pub ErrorPasses : List Definition → Option ApiEndpointErrorResponse → Type 0
ErrorPasses table None = ⊤
ErrorPasses table (Some error) = DescPasses table error.desc

-- the table of a shape and each descriptor that is read in it pass
pub record ShapePasses (shape : HandlerShape) : Type 0 where
  pub table : TablePasses shape.table
  pub slots : SlotsPass shape.table shape.slots
  pub response : ResponsePasses shape.table shape.response
  pub error : ErrorPasses shape.table shape.error
