use Rattle.std.proofs.Common.{◌≡◌}
use Rattle.api_documents.specs.References.{reached_within, roots_of}
use Rattle.api_documents.proofs.reached.reached.Given as goal

-- the names reached within the steps so far
abbrev pub invariant-loop : goal.invariant-loop
invariant-loop l =
    l.names.keys ≡ reached_within l.shape.table (roots_of l.shape) l.counter
