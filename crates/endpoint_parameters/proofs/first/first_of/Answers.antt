use Rattle.std.proofs.Common.{sym, subst, arith, rules}
use Rattle.std.specs.Prelude.{All}
use Rattle.std.proofs.lemmas.List.{take_all}
use Rattle.endpoint_parameters.specs.Firsts.{IsFirstOf}
use Rattle.endpoint_parameters.proofs.Firsts.{first_at, none_at_end}
use Rattle.endpoint_parameters.proofs.first.first_of.Goals as goal

pub returns-then-holds-clause-first : goal.returns-then-holds-clause-first
returns-then-holds-clause-first g c =
    let holds = g.C.Condition.Holds c.args.condition.now in
    subst (IsFirstOf holds c.args.things.now) (sym c.thing-item.is)
    (first_at holds c.args.things.now c.loop-thing.thing-index c.thing-item.result c.loop-thing-test.true c.loop-thing.invariant.none
    (subst holds c.thing-item.is (c.holds.ensures.holds.0 (search rules))))

pub returns-clause-first : goal.returns-clause-first
returns-clause-first g c = none_at_end (g.C.Condition.Holds c.args.condition.now) c.args.things.now c.loop-thing.thing-index (omega (arith, c.loop-thing-test.false)) c.loop-thing.invariant.none

pub returns-clause-clear : goal.returns-clause-clear
returns-clause-clear g c =
    subst (All (g.C.Condition.Clear c.args.condition.now)) (take_all c.loop-thing.thing-index c.args.things.now (omega (arith, c.loop-thing-test.false))) c.loop-thing.invariant.clear
