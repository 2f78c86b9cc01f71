use Rattle.std.proofs.Common.{rules}
use Rattle.std.proofs.lemmas.List.Sorted.{answers_always}
use Rattle.std.proofs.lemmas.Result.{on_ok_weaker}
use Rattle.schema_values.proofs.Stable.{less, ranks, stably_sorted}
use Rattle.schema_values.proofs.order.sort_by_name.Goals as goal

pub returns-clause-sorted : goal.returns-clause-sorted
returns-clause-sorted g c =
    let name = g.T.HasName.name_of in
    let stable = c.sort_by.ensures.stable (less name) (ranks name) (answers_always _ _ _ (λ f a r f' k. search rules)) in
    on_ok_weaker c.sort_by.result
    (λ sorted. stably_sorted name c.args.items.now.items c.sort_by.new.self.items (sorted (less name) (ranks name) (answers_always _ _ _ (λ f a r f' k. search rules))) stable)
    c.sort_by.ensures.sorted
