use Rattle.std.proofs.Common.{subst}
use Rattle.std.specs.Prelude.{Contains}
use Rattle.endpoint_parameters.proofs.CallerLemmas.{among}
use Rattle.endpoint_checks.proofs.slots.bad_form_told.Goals as goal

pub returns-in_ok-from_ascii-in-Some-clause-told : goal.returns-in_ok-from_ascii-in-Some-clause-told
returns-in_ok-from_ascii-in-Some-clause-told c =
    let slot = c.in-Some.field-0.now in
    let first = c.in-Some.ensures.first in
    let stands = subst (λ slots. Contains slots slot) c.as_slice.ensures (among c.as_slice.result.now first.earlier first.later slot first.in_order) in
    rw (← c.endpoint.view_is) ((slot, stands, first.holds), c.in_ok-from_ascii-in-Some.ensures)
