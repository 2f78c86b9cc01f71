use Rattle.std.proofs.Common.{length}
use Rattle.std.specs.Option.{option_copied}
use Rattle.typed_values.specs.Search.{all_met}
use Rattle.typed_values.proofs.search.+is_met.Given as goal

abbrev pub decreases-is_met : goal.decreases-is_met
decreases-is_met l = length (all_met (option_copied l.met))
