use Rattle.std.proofs.Common.{◌+◌, ◌*◌, length}
use Rattle.std.specs.Option.{option_copied}
use Rattle.typed_values.specs.Search.{all_met, on_path}
use Rattle.typed_values.proofs.Searching.{unmet}
use Rattle.typed_values.proofs.search.+leads.Given as goal

abbrev pub decreases-leads : goal.decreases-leads
decreases-leads l = 2 * unmet l.table.now (all_met (option_copied l.met)) + length (on_path l.path.now)
