use Rattle.std.proofs.Common.{ℕ, arith, subst}
use Rattle.std.proofs.lemmas.List.{take_all}
use Rattle.std.proofs.lemmas.List.Elements.{All-contains}
use Rattle.std.specs.Prelude.{All}
use Rattle.endpoint_parameters.specs.Firsts.{IsSuchAt}
use Rattle.endpoint_parameters.proofs.first.is_any.Goals as goal

pub returns : goal.returns
returns g c =
    let Fails = λ (place : ℕ). ¬ IsSuchAt (g.C.Condition.Holds c.args.condition.now) c.args.things.now place in
    let places = c.args.places.now in
    let none = subst (All Fails) (take_all c.loop-place.place-index places (omega (arith, c.loop-place-test.false))) c.loop-place.invariant in
    (λ h. absurd (cc h), λ found. absurd (All-contains Fails places found.0 none found.1 found.2))
