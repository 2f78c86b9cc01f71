use Rattle.std.proofs.Common.{◌≡◌, [], ◌∷◌, ◌++◌, sym, ◌∙◌, ap}
use Rattle.std.specs.Prelude.{slice_set}
use Rattle.std.proofs.lemmas.Result.{IfOk-weaker, on_ok_weaker}
use Rattle.tree_store.specs.Tables.{changed, pairs_with, stored, tree_at}
use Rattle.tree_store.proofs.PlaceLemmas.{changed-absent, changed-at, pairs_of-absent, pairs_of-at}
use Rattle.tree_store.proofs.store.Store.insert.Goals as goal

pub returns-in-Some-clause-ok : goal.returns-in-Some-clause-ok
returns-in-Some-clause-ok c =
    let put = changed-at c.args.table.now (pairs_with c.args.key.now c.args.tree) c.self.inside.tables.items c.in-Some.place c.index_mut.result.now c.as_slice.result.now
    c.in-Some.ensures c.as_slice.ensures.value c.index_mut.ensures.value in
    on_ok_weaker c.insert.result
    (λ is. ap (slice_set c.self.inside.tables.items c.in-Some.place) is ∙ sym put ∙ ap (changed c.args.table.now (pairs_with c.args.key.now c.args.tree)) c.self.view_is)
    c.insert.ensures.ok

pub returns-in-Some-clause-replaced : goal.returns-in-Some-clause-replaced
returns-in-Some-clause-replaced c =
    let pairs = pairs_of-at c.args.table.now c.self.inside.tables.items c.in-Some.place c.index_mut.result.now c.as_slice.result.now
    c.in-Some.ensures c.as_slice.ensures.value c.index_mut.ensures.value in
    IfOk-weaker c.insert.result (λ old. old ≡ tree_at c.args.key.now c.index_mut.result.now.1) (λ old. old ≡ stored c.args.table.now c.args.key.now c.args.self.now)
    (λ old is. is ∙ ap (tree_at c.args.key.now) (sym pairs) ∙ ap (stored c.args.table.now c.args.key.now) c.self.view_is)
    c.insert.ensures.replaced

pub returns-in_ok-push-in-None-clause-ok : goal.returns-in_ok-push-in-None-clause-ok
returns-in_ok-push-in-None-clause-ok c =
    let put = changed-absent c.args.table.now (pairs_with c.args.key.now c.args.tree) c.self.inside.tables.items c.as_slice.result.now
    c.in-None.ensures c.as_slice.ensures.value in
    c.in_ok-push-in-None.ensures.items
    ∙ ap (λ table. c.self.inside.tables.items ++ table ∷ []) c.in_ok-with_pair-in-None.ensures
    ∙ sym put
    ∙ ap (changed c.args.table.now (pairs_with c.args.key.now c.args.tree)) c.self.view_is

pub returns-in_ok-push-in-None-clause-replaced : goal.returns-in_ok-push-in-None-clause-replaced
returns-in_ok-push-in-None-clause-replaced c =
    let none = pairs_of-absent c.args.table.now c.self.inside.tables.items c.as_slice.result.now c.in-None.ensures c.as_slice.ensures.value in
    ap (tree_at c.args.key.now) (sym none) ∙ ap (stored c.args.table.now c.args.key.now) c.self.view_is
