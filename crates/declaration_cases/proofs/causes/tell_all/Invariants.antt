use Rattle.std.proofs.Common.{map}
use Rattle.endpoint_checks.specs.EndpointIndexes.{IsIndexed}
use Rattle.endpoint_notation.specs.contracts.endpoint.PlainEndpointDeclared.TheImpl.{declared-value}
use Rattle.declaration_cases.proofs.causes.tell_all.Given as goal

-- the index is that of the endpoints that are registered so far
abbrev pub invariant-loop-one : goal.invariant-loop-one
invariant-loop-one l = IsIndexed (map declared-value.it l.registered) l.index
