use Rattle.std.proofs.Common.{◌≡◌}
use Rattle.api_documents.proofs.components.in_order.Given as goal

-- the entries so far
abbrev pub invariant-loop-entry : goal.invariant-loop-entry
invariant-loop-entry g l =
    l.entries ≡ l.yielded
