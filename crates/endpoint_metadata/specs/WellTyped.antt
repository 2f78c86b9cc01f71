-- Whether the types of some slots are such that their parameters can be told: they pass their checks, and those whose
-- fields are parameters are structs.
use Rattle.std.specs.Prelude.{⊤, List, [], All}
use Rattle.descriptors.specs.declared.table.Definition.{Definition}
use Rattle.typed_values.specs.Checks.{TablePasses}
use Rattle.handler_shapes.specs.ShapeChecks.{SlotPasses}
use Rattle.handler_shapes.specs.declared.slot.Slot.{Slot}
use Rattle.handler_shapes.specs.declared.slot.Slot.TheVariants.{Path, Query, Header, PagedQuery, TypedBody, RawBody}
use Rattle.handler_shapes.specs.declared.slot.Slot.TheVariants.{StreamBody}
use Rattle.endpoint_metadata.specs.declared.extension.ExtensionMode.TheVariants as mode
use Rattle.endpoint_metadata.specs.declared.extension.ExtractorMetadata.{ExtractorMetadata}
use Rattle.endpoint_metadata.specs.Structs.{IsStruct}

-- the type of a slot's parameters is a struct; bodies may have any type
abbrev pub TakesStruct : List Definition → Slot → Type 0
TakesStruct table (Path desc) = IsStruct table desc
TakesStruct table (Query desc) = IsStruct table desc
TakesStruct table (Header desc) = IsStruct table desc
TakesStruct table (PagedQuery scan selector selector_table) = IsStruct table scan
TakesStruct table (TypedBody desc name) = ⊤
TakesStruct table RawBody = ⊤
TakesStruct table StreamBody = ⊤

-- each descriptor of a slot passes its check, that of a selector with its own table, and parameters are of a struct
pub record IsWellTyped (table : List Definition) (slot : Slot) : Type 0 where
  pub passes : SlotPasses table slot
  pub struct : TakesStruct table slot

-- a table passes its check, and each slot is of such types
pub record AreWellTyped (table : List Definition) (slots : List Slot) : Type 0 where
  pub passes : TablePasses table
  pub each : All (IsWellTyped table) slots

-- nothing is told
abbrev pub nothing_told : ExtractorMetadata
nothing_told = record { extension_mode = mode.None; parameters = [] }
