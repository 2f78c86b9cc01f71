use Rattle.std.proofs.Common.{subst}
use Rattle.tree_store.specs.Tables.{Ascend}
use Rattle.tree_store.proofs.MapLemmas.{ascending}
use Rattle.tree_store.proofs.table.Table.count.Goals as goal

pub returns-clause-ascends : goal.returns-clause-ascends
returns-clause-ascends c = subst (λ table. Ascend table.1) c.self.view_is (ascending c.self.inside.trees.entries c.len.ensures.ordered)
