use Rattle.std.proofs.Common.{◌≡◌, ◌-◌}
use Rattle.typed_values.proofs.AscendingKeys.{ascend_from}
use Rattle.typed_values.proofs.fitting.keys_ascend.Given as goal

abbrev pub invariant-loop-index : goal.invariant-loop-index
invariant-loop-index l = ascend_from l.pairs 0 ≡ ascend_from l.pairs (l.index - 1)
