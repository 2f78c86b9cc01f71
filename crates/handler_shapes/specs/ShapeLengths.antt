-- Lengths have 32 bits in all descriptors of a shape, as their type gives in the code.
use Rattle.std.specs.Prelude.{⊤, List, All, IfSome}
use Rattle.descriptors.specs.declared.desc.Desc.{Desc}
use Rattle.descriptors.specs.declared.table.Definition.{Definition}
use Rattle.typed_values.specs.Lengths.{HasShortLengths, TableHasShortLengths}
use Rattle.handler_shapes.specs.declared.slot.Slot.{Slot}
use Rattle.handler_shapes.specs.declared.slot.Slot.TheVariants.{Path, Query, Header, PagedQuery, TypedBody, RawBody, StreamBody}
use Rattle.handler_shapes.specs.declared.shape.ApiEndpointResponse.{ApiEndpointResponse}
use Rattle.handler_shapes.specs.declared.shape.ContentShape.{ContentShape}
use Rattle.handler_shapes.specs.declared.shape.ContentShape.TheVariants.{Json, Empty, Freeform}
use Rattle.handler_shapes.specs.declared.shape.HandlerShape.{HandlerShape}

-- each length of a selector and of its own table is below 2^32
pub record SelectorHasShortLengths (definitions : List Definition) (desc : Desc) : Type 0 where
  pub table : TableHasShortLengths definitions
  pub selector : HasShortLengths desc

-- each length of each descriptor of a slot is below 2^32
abbrev pub SlotHasShortLengths : Slot → Type 0
SlotHasShortLengths (Path desc) = HasShortLengths desc
SlotHasShortLengths (Query desc) = HasShortLengths desc
SlotHasShortLengths (Header desc) = HasShortLengths desc
SlotHasShortLengths (PagedQuery scan selector selector_table) = HasShortLengths scan × SelectorHasShortLengths selector_table selector
SlotHasShortLengths (TypedBody desc name) = HasShortLengths desc
SlotHasShortLengths RawBody = ⊤
SlotHasShortLengths StreamBody = ⊤

-- each length of the descriptor of a content is below 2^32
abbrev pub ContentHasShortLengths : ContentShape → Type 0
ContentHasShortLengths (Json desc name) = HasShortLengths desc
ContentHasShortLengths Empty = ⊤
ContentHasShortLengths Freeform = ⊤

-- each length of each descriptor of what a success gives is below 2^32
pub record ResponseHasShortLengths (response : ApiEndpointResponse) : Type 0 where
  pub content : ContentHasShortLengths response.content
  pub headers : IfSome response.headers HasShortLengths

-- each length in the table of a shape and in each descriptor that is read in it is below 2^32
pub record ShapeHasShortLengths (shape : HandlerShape) : Type 0 where
  pub table : TableHasShortLengths shape.table
  pub slots : All SlotHasShortLengths shape.slots
  pub response : ResponseHasShortLengths shape.response
  pub error : IfSome shape.error (λ error. HasShortLengths error.desc)
