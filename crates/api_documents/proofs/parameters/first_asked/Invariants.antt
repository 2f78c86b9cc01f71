use Rattle.std.proofs.Common.{◌≡◌, drop}
use Rattle.endpoint_metadata.specs.Modes.{first_asked}
use Rattle.api_documents.proofs.parameters.first_asked.Given as goal

-- no slot so far is one of pages
abbrev pub invariant-loop-slot : goal.invariant-loop-slot
invariant-loop-slot l =
    first_asked l.table l.slots ≡ first_asked l.table (drop l.slot-index l.slots)
