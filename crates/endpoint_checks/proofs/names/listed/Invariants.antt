use Rattle.std.proofs.Common.{◌≡◌}
use Rattle.endpoint_checks.proofs.names.listed.Given as goal

abbrev pub invariant-loop-name : goal.invariant-loop-name
invariant-loop-name l = l.names ≡ l.yielded
