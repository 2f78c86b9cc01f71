use Rattle.std.proofs.Common.{◌≡◌, map, refl, ap, ◌∙◌, arith}
use Rattle.std.proofs.lemmas.List.{take_all}
use Rattle.schema_values.specs.Order.{sorted_by}
use Rattle.schema_values.proofs.SortedLemmas.{map_sorted}
use Rattle.schema_values.proofs.order.in_order.Goals as goal

pub returns : goal.returns
returns g c =
    let name = g.T.HasName.name_of in
    let xs = c.args.items.now in
    let all : map (λ item. item.now) c.loop-item.ordered.items ≡ xs = c.loop-item.invariant ∙ take_all c.loop-item.item-index xs (omega arith) in
    ap (map (λ item. item.now)) c.in_ok-sort_by_name.ensures.sorted
    ∙ map_sorted (λ item. name item.now) name (λ item. item.now) (λ item. refl) c.loop-item.ordered.items
    ∙ ap (sorted_by name) all
