use Rattle.std.proofs.Common.{take}
use Rattle.std.specs.Prelude.{All}
use Rattle.endpoint_parameters.specs.Firsts.{NoneOf}
use Rattle.endpoint_parameters.proofs.first.first_of.Given as goal

-- it holds of nothing so far
abbrev pub invariant-loop-thing : goal.invariant-loop-thing
invariant-loop-thing g l = record {
  none : NoneOf (g.C.Condition.Holds l.condition) (take l.thing-index l.things);
  clear : All (g.C.Condition.Clear l.condition) (take l.thing-index l.things);
}
