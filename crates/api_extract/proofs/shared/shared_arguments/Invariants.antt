use Rattle.std.proofs.Common.{◌≡◌, drop}
use Rattle.api_extract.specs.Denotes.{args_by}
use Rattle.api_extract.specs.Extraction.{plainly_told}
use Rattle.api_extract.proofs.SlotLists.{args_before}
use Rattle.api_extract.proofs.shared.shared_arguments.Given as goal

abbrev pub invariant-loop-slot : goal.invariant-loop-slot
invariant-loop-slot l =
    args_by (plainly_told l.table l.request) l.slots ≡ args_before l.args
    (args_by (plainly_told l.table l.request) (drop l.slot-index l.slots))
