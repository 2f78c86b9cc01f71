use Rattle.std.proofs.Common.{length, take}
use Rattle.endpoint_parameters.specs.Firsts.{IsFirstPlace}
use Rattle.endpoint_checks.specs.Clashes.{ServesSame}
use Rattle.endpoint_checks.proofs.clashes.first_serving.Given as goal

-- the first of the places so far where an endpoint serves the same
abbrev pub invariant-loop-place : goal.invariant-loop-place
invariant-loop-place g l =
    IsFirstPlace (λ e. ServesSame l.endpoint (g.E.Declared.declared e)) l.before (take l.place-index l.place-items) (length l.before) l.first
