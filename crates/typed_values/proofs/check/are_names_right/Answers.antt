use Rattle.std.proofs.Common.{◌≡◌, ◌<◌, length, get_or, arith, sym}
use Rattle.typed_values.proofs.Within.{untrue}
use Rattle.typed_values.proofs.check.are_names_right.Goals as goal

pub returns-then-not-is_name-clause-names : goal.returns-then-not-is_name-clause-names
returns-then-not-is_name-clause-names c =
    let table = c.args.table.now in
    let e = c.definition-item.result in
    let i = c.loop-definition.definition-index in
    let is : e ≡ get_or table i e = rw (← c.definitions-definition-items.ensures.items) c.definition-item.is in
    let inside : i < length table = rw (← c.definitions-definition-items.ensures.items) (omega arith) in
    (e, (i, inside, sym is), untrue c.is_name.ensures c.if-not-is_name.true)
