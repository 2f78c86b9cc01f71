use Rattle.schema_util.specs.Met.{names_met}
use Rattle.schema_util.proofs.Chains.{unmet}
use Rattle.schema_util.proofs.references.+resolve_behind.Given as goal

abbrev pub decreases-resolve_behind : goal.decreases-resolve_behind
decreases-resolve_behind l = unmet l.definitions.now.entries (names_met l.met)
