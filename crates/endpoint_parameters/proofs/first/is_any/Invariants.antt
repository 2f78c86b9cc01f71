use Rattle.std.proofs.Common.{take}
use Rattle.std.specs.Prelude.{All}
use Rattle.endpoint_parameters.specs.Firsts.{IsSuchAt}
use Rattle.endpoint_parameters.proofs.first.is_any.Given as goal

-- it holds at none of the places so far
abbrev pub invariant-loop-place : goal.invariant-loop-place
invariant-loop-place g l = All (λ place. ¬ IsSuchAt (g.C.Condition.Holds l.condition) l.things place) (take l.place-index l.places)
