use Rattle.std.proofs.Common.{sym, arith}
use Rattle.std.proofs.lemmas.Result.{err_from_is_err_and}
use Rattle.std.specs.HashMap.{get_by_text}
use Rattle.schema_util.specs.Met.{names_met}
use Rattle.schema_util.specs.References.{stays, breaks, goes_on, reason_of}
use Rattle.schema_util.proofs.Chains.{met_longer, fewer}
use Rattle.schema_util.proofs.Steps.{followed}
use Rattle.schema_util.proofs.references.+resolve_behind.Goals as goal

pub returns-in_default : goal.returns-in_default
returns-in_default t c = stays (sym c.in_default.ensures)

pub returns-in_err-name : goal.returns-in_err-name
returns-in_err-name t c =
    let p = err_from_is_err_and c.from_residual.result c.from_residual.ensures.1 in
    rw (p.1, p.2) (breaks c.in-Some.reference.now (reason_of c.in_err-name.field-0.0) (sym c.in-Some.ensures) (sym c.in_err-name.ensures))

pub resolve_behind-requires : goal.resolve_behind-requires
resolve_behind-requires t c =
    let met = names_met c.args.met in
    let s = followed (get_by_text c.args.definitions.now) met c.in_ok-name.name.now c.in_ok-name.next.now c.in-Some.reference.now (sym c.in_ok-name.ensures) in
    rw (met_longer c.in_ok-name.name c.args.met) (
      omega (arith, c.decreases, fewer c.args.definitions.now.entries met c.in_ok-name.name.now c.in_ok-name.next.now s.found s.unmet),
      tt,
    )

pub returns : goal.returns
returns t c =
    goes_on c.in-Some.reference.now c.in_ok-name.name.now c.in_ok-name.next.now _ (sym c.in-Some.ensures) (sym c.in_ok-name.ensures) (rw met_longer at c.resolve_behind.ensures)
