use Rattle.std.proofs.Common.{ap, ◌∙◌}
use Rattle.tree_store.specs.Tables.{tree_at}
use Rattle.tree_store.proofs.MapLemmas.{lookup-tree_at}
use Rattle.tree_store.proofs.table.Table.get.Goals as goal

pub returns : goal.returns
returns c =
    c.get.ensures.value
    ∙ lookup-tree_at c.self.inside.trees.entries c.args.key.now
    ∙ ap (λ table. tree_at c.args.key.now table.1) c.self.view_is
