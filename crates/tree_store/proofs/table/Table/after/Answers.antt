use Rattle.std.proofs.Common.{◌≡◌, ◌∙◌, ap, map, subst, take}
use Rattle.std.specs.Prelude.{IfOk}
use Rattle.std.proofs.lemmas.Result.{IfOk-weaker}
use Rattle.tree_store.specs.Tables.{Ascend, pair_of, pairs_above}
use Rattle.tree_store.specs.TableView.{pairs_of_entries}
use Rattle.tree_store.proofs.MapLemmas.{ascending, between_after}
use Rattle.tree_store.proofs.table.Table.after.Goals as goal

pub returns-clause-ascends : goal.returns-clause-ascends
returns-clause-ascends c =
    IfOk-weaker c.copy_pairs.result _ _
    (λ _ _. subst (λ table. Ascend table.1) c.self.view_is (ascending c.self.inside.trees.entries c.range.ensures.ordered)) c.copy_pairs.ensures.pairs

pub returns-clause-pairs : goal.returns-clause-pairs
returns-clause-pairs c =
    let entries = c.self.inside.trees.entries in
    let shown = ap pairs_of_entries (c.range.ensures.between tt) ∙ between_after entries c.in_ok-key.key
    ∙ ap (λ bytes. pairs_above bytes (pairs_of_entries entries)) c.in_ok-key.ensures.ok
    ∙ ap (λ table. pairs_above c.args.key.now table.1) c.self.view_is in
    subst (λ ps. IfOk c.copy_pairs.result (λ pairs. pairs ≡ map pair_of (take c.args.count ps))) shown c.copy_pairs.ensures.pairs
