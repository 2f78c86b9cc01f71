use Rattle.std.proofs.Common.{sym, ◌∙◌, ap}
use Rattle.tree_store.specs.Tables.{stored, tree_at}
use Rattle.tree_store.proofs.PlaceLemmas.{pairs_of-at, pairs_of-absent}
use Rattle.tree_store.proofs.store.Store.get.Goals as goal

pub returns-in-Some : goal.returns-in-Some
returns-in-Some c =
    let pairs = pairs_of-at c.args.table.now c.self.inside.tables.items c.in-Some.place c.index.result.now c.as_slice.result.now
    c.in-Some.ensures c.as_slice.ensures.value c.index.ensures in
    c.get.ensures ∙ ap (tree_at c.args.key.now) (sym pairs) ∙ ap (stored c.args.table.now c.args.key.now) c.self.view_is

pub returns-in-None : goal.returns-in-None
returns-in-None c =
    let none = pairs_of-absent c.args.table.now c.self.inside.tables.items c.as_slice.result.now c.in-None.ensures c.as_slice.ensures.value in
    ap (tree_at c.args.key.now) (sym none) ∙ ap (stored c.args.table.now c.args.key.now) c.self.view_is
