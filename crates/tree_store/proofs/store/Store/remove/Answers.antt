use Rattle.std.proofs.Common.{◌∙◌, ap, sym}
use Rattle.std.specs.Prelude.{slice_set}
use Rattle.tree_store.specs.Tables.{changed, pairs_without, stored, tree_at}
use Rattle.tree_store.proofs.PlaceLemmas.{changed-at, pairs_of-absent, pairs_of-at}
use Rattle.tree_store.proofs.store.Store.remove.Goals as goal

pub returns-in-Some-clause-removed : goal.returns-in-Some-clause-removed
returns-in-Some-clause-removed c =
    let pairs = pairs_of-at c.args.table.now c.self.inside.tables.items c.in-Some.place c.index_mut.result.now c.as_slice.result.now
    c.in-Some.ensures c.as_slice.ensures.value c.index_mut.ensures.value in
    c.remove.ensures.removed ∙ ap (tree_at c.args.key.now) (sym pairs) ∙ ap (stored c.args.table.now c.args.key.now) c.self.view_is

pub returns-in-Some-clause-left : goal.returns-in-Some-clause-left
returns-in-Some-clause-left c = λ some.
    let put = changed-at c.args.table.now (pairs_without c.args.key.now) c.self.inside.tables.items c.in-Some.place c.index_mut.result.now c.as_slice.result.now
    c.in-Some.ensures c.as_slice.ensures.value c.index_mut.ensures.value in
    ap (slice_set c.self.inside.tables.items c.in-Some.place) c.remove.ensures.left ∙ sym put
    ∙ ap (changed c.args.table.now (pairs_without c.args.key.now)) c.self.view_is

pub returns-in-None-clause-removed : goal.returns-in-None-clause-removed
returns-in-None-clause-removed c =
    let none = pairs_of-absent c.args.table.now c.self.inside.tables.items c.as_slice.result.now c.in-None.ensures c.as_slice.ensures.value in
    ap (tree_at c.args.key.now) (sym none) ∙ ap (stored c.args.table.now c.args.key.now) c.self.view_is
