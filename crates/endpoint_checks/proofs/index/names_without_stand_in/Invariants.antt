use Rattle.std.proofs.Common.{length, map, take}
use Rattle.std.specs.Prelude.{All}
use Rattle.endpoint_checks.specs.EndpointIndexes.{IsNamedOrStoodFor}
use Rattle.endpoint_checks.proofs.index.names_without_stand_in.Given as goal

-- so it is for the definitions so far
abbrev pub invariant-loop-definition : goal.invariant-loop-definition
invariant-loop-definition g l =
    All (IsNamedOrStoodFor (map g.E.Declared.declared l.before) l.index (length l.before) l.endpoint l.names) (take l.definition-index l.endpoint.shape.table)
