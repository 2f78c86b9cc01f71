use Rattle.std.proofs.Common.{◌≡◌, take}
use Rattle.api_documents.specs.References.{referred_by}
use Rattle.api_documents.proofs.reached.referred_by.Given as goal

-- those of the definitions so far
abbrev pub invariant-loop-definition : goal.invariant-loop-definition
invariant-loop-definition l =
    l.referred ≡ referred_by l.names.keys (take l.definition-index l.definitions)
