-- Arguments of slots, in the table of a handler's shape, and what they convert to.
use Rattle.std.specs.Prelude.{◌≡◌, ⊤, List, [], ◌∷◌}
use Rattle.descriptors.specs.declared.desc.Desc.{Desc}
use Rattle.descriptors.specs.declared.table.Definition.{Definition}
use Rattle.typed_values.specs.Checks.{TablePasses}
use Rattle.api_types.specs.Types.{FitsOne, HoldsAll}
use Rattle.handler_shapes.specs.declared.arguments.Arg.{Arg}
use Rattle.handler_shapes.specs.declared.arguments.Arg.TheVariants.{Tree as OfTree, Raw, Stream}
use Rattle.handler_shapes.specs.declared.slot.Slot.{Slot}
use Rattle.handler_shapes.specs.Arguments.{ArgFits, ArgsFit}
use Rattle.handler_shapes.specs.ShapeChecks.{SlotPasses, SlotsPass}
use Rattle.typed_extractors.specs.SlotAdditions.{HaveTables}

-- an argument fits a slot in a table that has the slot's definitions and passes its checks with the slot; and each of
-- the slot's selectors has a table
pub record IsTaken (slot : Slot) (ds : List Definition) (selectors : List (List Definition)) (arg : Arg) :
    Type 0 where
  pub table : List Definition
  pub holds : HoldsAll table ds
  pub tables : HaveTables selectors
  pub passes : TablePasses table
  pub slot_passes : SlotPasses table slot
  pub fits : ArgFits table slot arg

-- so do arguments, one for each slot in order
pub record AreTaken (slots : List Slot) (ds : List Definition) (selectors : List (List Definition)) (args : List Arg) :
    Type 0 where
  pub table : List Definition
  pub holds : HoldsAll table ds
  pub tables : HaveTables selectors
  pub passes : TablePasses table
  pub slots_pass : SlotsPass table slots
  pub fit : ArgsFit table slots args

-- an argument is the tree of a value of a descriptor
abbrev pub IsTreeOf : List Definition → Desc → Arg → Type 0
IsTreeOf ds desc (OfTree tree) = FitsOne ds desc tree
IsTreeOf ds desc (Raw bytes) = ⊥
IsTreeOf ds desc (Stream body) = ⊥

-- the first argument converts to a value, and the others to another
abbrev pub ConvertsFirst : {S R : Type 0} → (Arg → S → Type 0) → (List Arg → R → Type 0)
    → List Arg → S → R → Type 0
ConvertsFirst one others [] value rest = ⊥
ConvertsFirst one others (arg ∷ args) value rest = one arg value × others args rest

-- in the place of the first argument is left what one relation says, and in those of the others what another says
abbrev pub LeavesFirst : (Arg → Arg → Type 0) → (List Arg → List Arg → Type 0) → List Arg → List Arg → Type 0
LeavesFirst one others (before ∷ befores) (after ∷ afters) = one before after × others befores afters
LeavesFirst one others _ _ = ⊥

-- no argument converts to nothing
abbrev pub IsNothing : List Arg → ⊤ → Type 0
IsNothing args value = args ≡ []
