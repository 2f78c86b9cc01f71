use Rattle.std.proofs.Common.{◌≡◌, ◌++◌}
use Rattle.api_documents.proofs.parameters.append.Given as goal

-- some more behind those of before
abbrev pub invariant-loop-parameter : goal.invariant-loop-parameter
invariant-loop-parameter l =
    l.parameters ≡ l.initial.parameters ++ l.yielded
