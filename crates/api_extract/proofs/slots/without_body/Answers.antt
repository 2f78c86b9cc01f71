use Rattle.std.proofs.Common.{List, [], ◌∷◌, ◌++◌, All, subst, sym, ◌∙◌}
use Rattle.std.proofs.lemmas.List.Elements.{All-from_recursion}
use Rattle.handler_shapes.specs.declared.slot.Slot.{Slot}
use Rattle.handler_shapes.specs.BodySlots.{BodyComesLast}
use Rattle.api_extract.proofs.FrontSlots.{TakesNone, front_takes_none, none_takes}
use Rattle.api_extract.proofs.slots.without_body.Goals as goal

pub returns-then-takes_body-clause-shared : goal.returns-then-takes_body-clause-shared
returns-then-takes_body-clause-shared c =
    let shared = c.in-Some.shared.now in
    All-from_recursion TakesNone shared
    (front_takes_none shared c.in-Some.last.now (subst BodyComesLast c.in-Some.ensures.cases.0 c.requires))

pub returns-else-takes_body-clause-shared : goal.returns-else-takes_body-clause-shared
returns-else-takes_body-clause-shared c =
    let shared = c.in-Some.shared.now in
    let last = c.in-Some.last.now in
    let front = front_takes_none shared last (subst BodyComesLast c.in-Some.ensures.cases.0 c.requires) in
    subst (λ (slots : List Slot). All TakesNone slots) (sym c.in-Some.ensures.cases.0) (
    All-from_recursion TakesNone (shared ++ last ∷ [])
    (none_takes shared last front (sym c.takes_body.ensures ∙ c.if-takes_body.false)))
