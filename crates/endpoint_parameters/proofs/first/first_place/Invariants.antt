use Rattle.std.proofs.Common.{take}
use Rattle.endpoint_parameters.specs.Firsts.{IsFirstPlace}
use Rattle.endpoint_parameters.proofs.first.first_place.Given as goal

-- the first of the places so far
abbrev pub invariant-loop-place : goal.invariant-loop-place
invariant-loop-place g l = IsFirstPlace (g.C.Condition.Holds l.condition) l.things (take l.place-index l.places) l.end l.first
