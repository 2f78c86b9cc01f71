use Rattle.std.proofs.Common.{◌≡◌}
use Rattle.api_documents.proofs.listed.in_order.Given as goal

-- the texts so far
abbrev pub invariant-loop-text : goal.invariant-loop-text
invariant-loop-text l =
    l.texts ≡ l.yielded
