use Rattle.std.proofs.Common.{◌≡◌}
use Rattle.endpoint_cases.proofs.information.document_said.Given as goal

-- the API stays as it is
abbrev pub invariant-loop-noted : goal.invariant-loop-noted
invariant-loop-noted g l = l.definition.api.now ≡ l.api
