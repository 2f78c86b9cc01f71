use Rattle.std.proofs.Common.{◌≡◌}
use Rattle.api_documents.specs.Ordered.{with_texts}
use Rattle.api_documents.proofs.reached.add_all.Given as goal

-- the names so far
abbrev pub invariant-loop-name : goal.invariant-loop-name
invariant-loop-name l =
    l.names.keys ≡ with_texts l.initial.names.keys l.yielded
