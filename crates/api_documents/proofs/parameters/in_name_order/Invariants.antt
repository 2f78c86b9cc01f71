use Rattle.std.proofs.Common.{◌≡◌, map}
use Rattle.api_documents.proofs.parameters.in_name_order.Given as goal

-- the parameters so far
abbrev pub invariant-loop-item : goal.invariant-loop-item
invariant-loop-item l =
    l.parameters ≡ map (λ named. named.parameter) l.yielded
