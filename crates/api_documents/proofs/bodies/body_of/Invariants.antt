use Rattle.std.proofs.Common.{◌≡◌, drop}
use Rattle.api_documents.specs.Bodies.{body_of}
use Rattle.api_documents.proofs.bodies.body_of.Given as goal

-- no slot so far is one of a body
abbrev pub invariant-loop-slot : goal.invariant-loop-slot
invariant-loop-slot l =
    body_of l.kind l.table l.slots ≡ body_of l.kind l.table (drop l.slot-index l.slots)
