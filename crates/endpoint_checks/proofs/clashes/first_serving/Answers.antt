use Rattle.std.proofs.Common.{List, ℕ, ◌+◌, length, subst, sym, take, arith, ◌∙◌}
use Rattle.std.proofs.lemmas.List.{take_all}
use Rattle.endpoint_parameters.specs.Firsts.{IsFirstPlace}
use Rattle.endpoint_parameters.proofs.CallerLemmas.{earlier_found, first_lent, none_found}
use Rattle.endpoint_checks.specs.Clashes.{ServesSame}
use Rattle.endpoint_checks.proofs.FoundByIndex.{none_serving}
use Rattle.endpoint_checks.proofs.clashes.first_serving.Goals as goal
use Rattle.endpoint_checks.proofs.clashes.first_serving.Goals.{then-place-first+in_ok-serves_same_at+then-branch, else-place-first}
use Rattle.endpoint_checks.proofs.clashes.first_serving.Goals.{else-place-first-via-then-place-first+in_ok-serves_same_at+else-branch, else-place-first-via-else-place-first}

pub loop-place-preserved : goal.loop-place-preserved
loop-place-preserved g c =
    let declared = g.E.Declared.declared in
    let e = c.args.endpoint.now in
    let before = c.args.before.now in
    let Serves = λ (x : g.row.E.Denot). ServesSame e (declared x) in
    let places = c.at-place-items.result.now in
    let i = c.loop-place.place-index in
    let first = c.loop-place.first in
    let IsFirst = λ (n : ℕ). IsFirstPlace Serves before (take (i + 1) places) (length before) n in
    elim c.if-place-first.branch [
      | then-place-first+in_ok-serves_same_at+then-branch w ↦
          subst IsFirst (sym w.first-is) (earlier_found Serves before places (length before) first i c.loop-place-test.true c.loop-place.invariant w.if-place-first.true (w.in_ok-serves_same_at.ensures.0 w.if-branch.true))
      | else-place-first w ↦
          subst IsFirst (sym w.first-is) (none_found Serves before places (length before) first i c.loop-place-test.true c.loop-place.invariant
          (elim w.else-place-first.branch [
            | else-place-first-via-then-place-first+in_ok-serves_same_at+else-branch w' ↦ λ below such. absurd (cc (w'.in_ok-serves_same_at.ensures.1 such, w'.if-branch.false))
            | else-place-first-via-else-place-first w' ↦ λ below. absurd (omega (arith, below, w'.if-place-first.false))
          ]))
    ]

pub returns : goal.returns
returns g c =
    let declared = g.E.Declared.declared in
    let e = c.args.endpoint.now in
    let before = c.args.before.now in
    let first = c.loop-place.first in
    let places = c.at-place-items.result.now in
    let is_first =
    subst (λ (places : List ℕ). IsFirstPlace (λ x. ServesSame e (declared x)) before places (length before) first)
    (take_all c.loop-place.place-index places (omega (arith, c.loop-place-test.false)) ∙ c.at-place-items.ensures) c.loop-place.invariant in
    first_lent (λ x. ServesSame e (declared x)) before first c.loop-place.invariant.is_such
    (none_serving declared before c.args.index.now c.requires.index e c.args.shape.now c.requires.shape (length before) first is_first) (λ x. x.now) c.get.result c.get.ensures.lookup
