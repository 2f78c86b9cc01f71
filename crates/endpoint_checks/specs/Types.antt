-- Which types an endpoint's handler may take and give: those that pass their checks, and of parameters and of the
-- headers of a response those alone that are structs of any names.
use Rattle.std.specs.Prelude.{◌≢◌, ⊤, List, None, Contains, IfSome}
use Rattle.descriptors.specs.declared.desc.Desc.{Desc}
use Rattle.descriptors.specs.declared.table.Definition.{Definition}
use Rattle.handler_shapes.specs.ShapeChecks.{ShapePasses}
use Rattle.handler_shapes.specs.SlotFields.{struct_fields}
use Rattle.handler_shapes.specs.declared.shape.HandlerShape.{HandlerShape}
use Rattle.handler_shapes.specs.declared.slot.Slot.{Slot}
use Rattle.handler_shapes.specs.declared.slot.Slot.TheVariants as slot
use Rattle.api_declarations.specs.Values.{DeclarationValue}

-- a descriptor is a struct that takes unknown names, itself or behind references
abbrev pub IsOpenStruct : List Definition → Desc → Type 0
IsOpenStruct table desc = struct_fields table desc ≢ None

-- the type of a slot's parameters is such a struct; bodies may have any type
abbrev pub TakesOpenStruct : List Definition → Slot → Type 0
TakesOpenStruct table (slot.Path desc) = IsOpenStruct table desc
TakesOpenStruct table (slot.Query desc) = IsOpenStruct table desc
TakesOpenStruct table (slot.Header desc) = IsOpenStruct table desc
TakesOpenStruct table (slot.PagedQuery scan selector selector_table) = IsOpenStruct table scan
TakesOpenStruct table _ = ⊤

-- each table and each descriptor of a shape passes its checks, and parameters and named headers have open structs
pub record IsSupported (shape : HandlerShape) : Type 0 where
  pub passes : ShapePasses shape
  pub parameters : (slot : Slot) → Contains shape.slots slot → TakesOpenStruct shape.table slot
  pub headers : IfSome shape.response.headers (IsOpenStruct shape.table)

-- the shape of an endpoint's handler is not such
abbrev pub HasUnsupportedSchema : DeclarationValue → Type 0
HasUnsupportedSchema e = ¬ IsSupported e.shape
