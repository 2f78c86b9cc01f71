use Rattle.std.proofs.Common.{◌≡◌, take}
use Rattle.endpoint_metadata.specs.Modes.{AskAlike, mode_of, first_asked}
use Rattle.endpoint_metadata.proofs.modes.joint_mode.Given as goal

-- the mode of the slots so far, which ask alike
abbrev pub invariant-loop-slot : goal.invariant-loop-slot
invariant-loop-slot l = record {
  mode : l.mode ≡ mode_of (first_asked l.table (take l.slot-index l.slots));
  alike : AskAlike l.table (take l.slot-index l.slots);
}
