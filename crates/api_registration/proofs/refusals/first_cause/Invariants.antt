use Rattle.std.proofs.Common.{map, take}
use Rattle.std.specs.Prelude.{All}
use Rattle.api_registration.specs.Registering.{causes}
use Rattle.api_registration.proofs.FirstTold.{IsPassed}
use Rattle.api_registration.proofs.refusals.first_cause.Given as goal

-- no cause so far stands
abbrev pub invariant-loop-cause : goal.invariant-loop-cause
invariant-loop-cause g l = All (IsPassed l.config (map g.E.Declared.declared l.before) l.endpoint) (take l.cause-index causes)
