use Rattle.std.proofs.Common.{◌≡◌, ◌∙◌, ap, map, subst, take}
use Rattle.std.specs.Prelude.{IfOk}
use Rattle.tree_store.specs.Tables.{Ascend, pair_of}
use Rattle.tree_store.specs.TableView.{pairs_of_entries}
use Rattle.tree_store.proofs.MapLemmas.{ascending, between_none}
use Rattle.tree_store.proofs.table.Table.first.Goals as goal

pub returns-clause-ascends : goal.returns-clause-ascends
returns-clause-ascends c = subst (λ table. Ascend table.1) c.self.view_is (ascending c.self.inside.trees.entries c.range.ensures.ordered)

pub returns-clause-pairs : goal.returns-clause-pairs
returns-clause-pairs c =
    let shown = ap pairs_of_entries (c.range.ensures.between tt ∙ between_none c.self.inside.trees.entries) ∙ ap (λ table. table.1) c.self.view_is in
    subst (λ ps. IfOk c.copy_pairs.result (λ pairs. pairs ≡ map pair_of (take c.args.count ps))) shown c.copy_pairs.ensures.pairs

pub returns-clause-none : goal.returns-clause-none
returns-clause-none c =
    let shown = ap pairs_of_entries (c.range.ensures.between tt ∙ between_none c.self.inside.trees.entries) ∙ ap (λ table. table.1) c.self.view_is in
    λ none. c.copy_pairs.ensures.none (ap (take c.args.count) shown ∙ none)
