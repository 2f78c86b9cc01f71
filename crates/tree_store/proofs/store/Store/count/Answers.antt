use Rattle.std.proofs.Common.{◌∙◌, ap, length, subst, sym}
use Rattle.tree_store.specs.Tables.{Ascend, pairs_of}
use Rattle.tree_store.proofs.MapLemmas.{none_ascend}
use Rattle.tree_store.proofs.PlaceLemmas.{pairs_of-absent, pairs_of-at}
use Rattle.tree_store.proofs.store.Store.count.Goals as goal

pub returns-in-Some-clause-number : goal.returns-in-Some-clause-number
returns-in-Some-clause-number c =
    let pairs = pairs_of-at c.args.table.now c.self.inside.tables.items c.in-Some.place c.index.result.now c.as_slice.result.now
    c.in-Some.ensures c.as_slice.ensures.value c.index.ensures in
    c.count.ensures.number ∙ ap length (sym pairs ∙ ap (pairs_of c.args.table.now) c.self.view_is)

pub returns-in-Some-clause-ascends : goal.returns-in-Some-clause-ascends
returns-in-Some-clause-ascends c =
    let pairs = pairs_of-at c.args.table.now c.self.inside.tables.items c.in-Some.place c.index.result.now c.as_slice.result.now
    c.in-Some.ensures c.as_slice.ensures.value c.index.ensures in
    subst Ascend (sym pairs ∙ ap (pairs_of c.args.table.now) c.self.view_is) c.count.ensures.ascends

pub returns-in-None-clause-number : goal.returns-in-None-clause-number
returns-in-None-clause-number c =
    let none = pairs_of-absent c.args.table.now c.self.inside.tables.items c.as_slice.result.now c.in-None.ensures c.as_slice.ensures.value in
    ap length (sym none ∙ ap (pairs_of c.args.table.now) c.self.view_is)

pub returns-in-None-clause-ascends : goal.returns-in-None-clause-ascends
returns-in-None-clause-ascends c =
    let none = pairs_of-absent c.args.table.now c.self.inside.tables.items c.as_slice.result.now c.in-None.ensures c.as_slice.ensures.value in
    subst Ascend (sym none ∙ ap (pairs_of c.args.table.now) c.self.view_is) none_ascend
