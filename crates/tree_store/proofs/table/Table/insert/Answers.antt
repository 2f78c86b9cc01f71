use Rattle.std.proofs.Common.{ap, ◌∙◌, string_bytes}
use Rattle.tree_store.specs.Tables.{pairs_with, tree_at}
use Rattle.tree_store.proofs.MapLemmas.{pairs_of_entries-insert_entry, lookup-tree_at}
use Rattle.tree_store.proofs.table.Table.insert.Goals as goal

pub returns-clause-ok : goal.returns-clause-ok
returns-clause-ok c =
    rw (c.in_ok-insert.ensures.entries, pairs_of_entries-insert_entry, c.in_ok-key.ensures.ok)
    (ap (λ table. (table.0, pairs_with c.args.key.now c.args.tree table.1)) c.self.view_is)

pub returns-clause-replaced : goal.returns-clause-replaced
returns-clause-replaced c =
    c.in_ok-insert.ensures.old
    ∙ lookup-tree_at c.self.inside.trees.entries (string_bytes c.in_ok-key.key)
    ∙ rw c.in_ok-key.ensures.ok (ap (λ table. tree_at c.args.key.now table.1) c.self.view_is)
