use Rattle.std.proofs.Common.{◌≡◌, ◌++◌, drop}
use Rattle.endpoint_checks.specs.Names.{after_commas, with_commas}
use Rattle.endpoint_checks.proofs.names.with_commas.Given as goal

abbrev pub invariant-loop-name : goal.invariant-loop-name
invariant-loop-name l = with_commas l.names ≡ l.joined ++ after_commas (drop l.name-index l.rest)
