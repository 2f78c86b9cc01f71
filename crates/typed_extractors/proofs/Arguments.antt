-- Arguments that are taken one by one.
use Rattle.std.proofs.Common.{◌≡◌, List, ◌∷◌, ◌++◌, subst}
use Rattle.std.proofs.lemmas.List.Elements.{All-head, All-tail}
use Rattle.descriptors.specs.declared.table.Definition.{Definition}
use Rattle.api_types.specs.Types.{HoldsAll}
use Rattle.handler_shapes.specs.Arguments.{ArgsFit}
use Rattle.handler_shapes.specs.ShapeChecks.{ShapePasses, SlotPasses, SlotsPass}
use Rattle.handler_shapes.specs.declared.arguments.Arg.{Arg}
use Rattle.handler_shapes.specs.declared.shape.HandlerShape.{HandlerShape}
use Rattle.handler_shapes.specs.declared.slot.Slot.{Slot}
use Rattle.typed_extractors.specs.SlotAdditions.{HaveTables}
use Rattle.typed_extractors.specs.Taken.{AreTaken, IsTaken}
use Rattle.typed_extractors.proofs.Reaching.{holds_left, holds_right}
use Rattle.typed_extractors.proofs.Refusing.{have_left, have_right}

module _ (slot : Slot) (slots : List Slot) (ds es : List Definition) (own others : List (List Definition)) where
  -- the first of the arguments that are taken is one of the first slot
  pub first_taken : (arg : Arg) (args : List Arg)
      → AreTaken (slot ∷ slots) (ds ++ es) (own ++ others) (arg ∷ args) → IsTaken slot ds own arg
  first_taken arg args taken = record {
    table = taken.table;
    holds = holds_left taken.table ds es taken.holds;
    tables = have_left own others taken.tables;
    passes = taken.passes;
    slot_passes = All-head (SlotPasses taken.table) slot slots taken.slots_pass;
    fits = taken.fit.0;
  }

  -- the others are of the other slots
  pub others_taken : (arg : Arg) (args : List Arg)
      → AreTaken (slot ∷ slots) (ds ++ es) (own ++ others) (arg ∷ args) → AreTaken slots es others args
  others_taken arg args taken = record {
    table = taken.table;
    holds = holds_right taken.table ds es taken.holds;
    tables = have_right own others taken.tables;
    passes = taken.passes;
    slots_pass = All-tail (SlotPasses taken.table) slot slots taken.slots_pass;
    fit = taken.fit.1;
  }

-- arguments of the slots of a shape that passes are taken, where its table has the definitions of the slots
pub shape_taken : (shape : HandlerShape) (slots : List Slot) (ds : List Definition) (selectors : List (List Definition))
    (args : List Arg) → shape.slots ≡ slots → HoldsAll shape.table ds → HaveTables selectors → ShapePasses shape
    → ArgsFit shape.table shape.slots args → AreTaken slots ds selectors args
shape_taken shape slots ds selectors args same held tables passes fit = record {
  table = shape.table;
  holds = held;
  tables = tables;
  passes = passes.table;
  slots_pass = subst (λ (xs : List Slot). SlotsPass shape.table xs) same passes.slots;
  fit = subst (λ (xs : List Slot). ArgsFit shape.table xs args) same fit;
}
