use Rattle.std.proofs.Common.{◌+◌, ℕ, arith, subst, sym, take}
use Rattle.endpoint_parameters.specs.Firsts.{IsFirstPlace}
use Rattle.endpoint_parameters.proofs.FirstPlaces.{earlier_found, none_found}
use Rattle.endpoint_parameters.proofs.first.first_place.Goals as goal
use Rattle.endpoint_parameters.proofs.first.first_place.Goals.{then-place-first+then-holds_at, else-place-first}
use Rattle.endpoint_parameters.proofs.first.first_place.Goals.{else-place-first-via-then-place-first+else-holds_at, else-place-first-via-else-place-first}

pub loop-place-preserved : goal.loop-place-preserved
loop-place-preserved g c =
    let Holds = g.C.Condition.Holds c.args.condition.now in
    let things = c.args.things.now in
    let places = c.args.places.now in
    let i = c.loop-place.place-index in
    let first = c.loop-place.first in
    let IsFirst = λ (n : ℕ). IsFirstPlace Holds things (take (i + 1) places) c.args.end n in
    elim c.if-place-first.branch [
      | then-place-first+then-holds_at w ↦
          subst IsFirst (sym w.first-is) (earlier_found Holds things places c.args.end first i c.loop-place-test.true c.loop-place.invariant w.if-place-first.true (w.holds_at.ensures.0 w.if-holds_at.true))
      | else-place-first w ↦
          subst IsFirst (sym w.first-is) (none_found Holds things places c.args.end first i c.loop-place-test.true c.loop-place.invariant
          (elim w.else-place-first.branch [
            | else-place-first-via-then-place-first+else-holds_at w' ↦ λ below such. absurd (cc (w'.holds_at.ensures.1 such, w'.if-holds_at.false))
            | else-place-first-via-else-place-first w' ↦ λ below. absurd (omega (arith, below, w'.if-place-first.false))
          ]))
    ]
