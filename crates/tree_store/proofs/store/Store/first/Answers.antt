use Rattle.std.proofs.Common.{◌≡◌, ◌∙◌, ap, map, subst, sym, take}
use Rattle.std.specs.Prelude.{IfOk}
use Rattle.tree_store.specs.Tables.{Ascend, pair_of, pairs_of}
use Rattle.tree_store.proofs.MapLemmas.{none_ascend, take_none}
use Rattle.tree_store.proofs.PlaceLemmas.{pairs_of-absent, pairs_of-at}
use Rattle.tree_store.proofs.store.Store.first.Goals as goal

pub returns-in-Some-clause-ascends : goal.returns-in-Some-clause-ascends
returns-in-Some-clause-ascends c =
    let pairs = pairs_of-at c.args.table.now c.self.inside.tables.items c.in-Some.place c.index.result.now c.as_slice.result.now
    c.in-Some.ensures c.as_slice.ensures.value c.index.ensures in
    subst Ascend (sym pairs ∙ ap (pairs_of c.args.table.now) c.self.view_is) c.first.ensures.ascends

pub returns-in-Some-clause-pairs : goal.returns-in-Some-clause-pairs
returns-in-Some-clause-pairs c =
    let pairs = pairs_of-at c.args.table.now c.self.inside.tables.items c.in-Some.place c.index.result.now c.as_slice.result.now
    c.in-Some.ensures c.as_slice.ensures.value c.index.ensures in
    subst (λ ps. IfOk c.first.result (λ given. given ≡ map pair_of (take c.args.count ps)))
    (sym pairs ∙ ap (pairs_of c.args.table.now) c.self.view_is) c.first.ensures.pairs

pub returns-in-None-clause-ascends : goal.returns-in-None-clause-ascends
returns-in-None-clause-ascends c =
    let none = pairs_of-absent c.args.table.now c.self.inside.tables.items c.as_slice.result.now c.in-None.ensures c.as_slice.ensures.value in
    subst Ascend (sym none ∙ ap (pairs_of c.args.table.now) c.self.view_is) none_ascend

pub returns-in-None-clause-pairs : goal.returns-in-None-clause-pairs
returns-in-None-clause-pairs c =
    let none = pairs_of-absent c.args.table.now c.self.inside.tables.items c.as_slice.result.now c.in-None.ensures c.as_slice.ensures.value in
    c.new.ensures ∙ ap (map pair_of) (sym (take_none c.args.count _ (sym (ap (pairs_of c.args.table.now) c.self.view_is) ∙ none)))

pub returns-in-Some-clause-none : goal.returns-in-Some-clause-none
returns-in-Some-clause-none c =
    let pairs = pairs_of-at c.args.table.now c.self.inside.tables.items c.in-Some.place c.index.result.now c.as_slice.result.now
    c.in-Some.ensures c.as_slice.ensures.value c.index.ensures in
    λ none. c.first.ensures.none (ap (take c.args.count) (sym pairs ∙ ap (pairs_of c.args.table.now) c.self.view_is) ∙ none)
