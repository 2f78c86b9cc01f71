use Rattle.std.proofs.Common.{ap, ◌∙◌}
use Rattle.tree_store.specs.Tables.{pairs_without, tree_at}
use Rattle.tree_store.proofs.MapLemmas.{lookup-tree_at, pairs_of_entries-remove_entry}
use Rattle.tree_store.proofs.table.Table.remove.Goals as goal

pub returns-clause-removed : goal.returns-clause-removed
returns-clause-removed c =
    c.remove.ensures.value
    ∙ lookup-tree_at c.self.inside.trees.entries c.args.key.now
    ∙ ap (λ table. tree_at c.args.key.now table.1) c.self.view_is

pub returns-clause-left : goal.returns-clause-left
returns-clause-left c =
    rw (c.remove.ensures.entries, pairs_of_entries-remove_entry c.self.inside.trees.entries c.args.key.now) (ap (λ table. (table.0, pairs_without c.args.key.now table.1)) c.self.view_is)
