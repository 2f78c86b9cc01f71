use Rattle.std.proofs.Common.{length}
use Rattle.schema_util.specs.Met.{names_met}
use Rattle.schema_util.proofs.met.+is_met.Given as goal

abbrev pub decreases-is_met : goal.decreases-is_met
decreases-is_met l = length (names_met l.met)
