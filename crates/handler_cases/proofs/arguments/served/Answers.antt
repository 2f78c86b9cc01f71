use Rattle.std.proofs.Common.{◌∙◌, List, subst}
use Rattle.handler_shapes.specs.ShapeChecks.{SlotsPass}
use Rattle.handler_shapes.specs.Arguments.{ArgsFit}
use Rattle.handler_shapes.specs.declared.slot.Slot.{Slot}
use Rattle.handler_cases.proofs.arguments.served.Goals as goal

-- what was read of a request is taken, in the table of the slots
pub converted-requires : goal.converted-requires
converted-requires g c =
    let table = c.args.table.now in
    let served = c.are_served.ensures c.if-not-are_served.false in
    record {
      table = table;
      holds = c.requires.held;
      tables = c.requires.tables;
      passes = served.definitions;
      slots_pass = subst (λ (xs : List Slot). SlotsPass table xs) (c.as_slice.ensures ∙ c.requires.slots) served.each;
      fit = subst (λ (xs : List Slot). ArgsFit table xs c.in-Ok.args) c.requires.slots c.in-Ok.ensures.fits;
    }
