use Rattle.std.proofs.Common.{Some, None, sym}
use Rattle.std.proofs.lemmas.Result.{err_from_is_err_and, on_ok_weaker, IfErr-weaker}
use Rattle.schema_util.specs.References.{reason_of}
use Rattle.schema_util.specs.Scalars.{is_unresolved, no_list, of_items, fault_of}
use Rattle.schema_util.proofs.scalar.type_is_string_enum.Goals as goal

pub returns-in_err-resolve-clause-refused : goal.returns-in_err-resolve-clause-refused
returns-in_err-resolve-clause-refused c =
    let p = err_from_is_err_and c.from_residual.result c.from_residual.ensures.1 in
    rw (p.1, p.2) (is_unresolved (reason_of c.in_err-resolve.field-0.0) c.in_err-resolve.ensures.refused)

pub returns-in-Some-clause-list : goal.returns-in-Some-clause-list
returns-in-Some-clause-list c =
    on_ok_weaker c.type_is_string.result
    (of_items c.in_ok-resolve.field-0.now c.in-Some.item.now None c.in_ok-resolve.ensures.resolved (sym c.in-Some.ensures))
    c.type_is_string.ensures.text

pub returns-in-Some-clause-refused : goal.returns-in-Some-clause-refused
returns-in-Some-clause-refused c =
    IfErr-weaker c.type_is_string.result _ _
    (λ error. of_items c.in_ok-resolve.field-0.now c.in-Some.item.now (Some (fault_of error)) c.in_ok-resolve.ensures.resolved (sym c.in-Some.ensures))
    c.type_is_string.ensures.refused

pub returns-in-None-clause-refused : goal.returns-in-None-clause-refused
returns-in-None-clause-refused c = no_list c.in_ok-resolve.field-0.now c.in_ok-resolve.ensures.resolved (sym c.in-None.ensures)
