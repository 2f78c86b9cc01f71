use Rattle.std.proofs.Common.{◌≡◌, map, take}
use Rattle.schema_values.proofs.order.in_order.Given as goal

abbrev pub invariant-loop-item : goal.invariant-loop-item
invariant-loop-item g l = map (λ item. item.now) l.ordered.items ≡ take l.item-index l.items
