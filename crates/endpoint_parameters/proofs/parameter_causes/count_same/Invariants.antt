use Rattle.std.proofs.Common.{◌≡◌, ◌+◌, drop}
use Rattle.std.specs.Prelude.{count_by}
use Rattle.endpoint_parameters.specs.Parameters.{is_same_parameter}
use Rattle.endpoint_parameters.proofs.parameter_causes.count_same.Given as goal

abbrev pub invariant-loop-other : goal.invariant-loop-other
invariant-loop-other l =
    count_by (is_same_parameter l.parameter) l.parameters ≡ l.count + count_by (is_same_parameter l.parameter) (drop l.other-index l.parameters)
