use Rattle.std.proofs.Common.{take}
use Rattle.endpoint_checks.proofs.FoundByIndex.{IsFirstBy}
use Rattle.endpoint_checks.proofs.definition_clashes.first_defining.Given as goal

-- the first place by the definitions so far
abbrev pub invariant-loop-definition : goal.invariant-loop-definition
invariant-loop-definition g l = IsFirstBy g.E.Declared.declared l.before l.endpoint (take l.definition-index l.endpoint.shape.table) l.first
