use Rattle.result_pages.proofs.Orders.{order_one, order_at}
use Rattle.result_pages.proofs.pagination_order.place_in.Goals as goal

pub unreachable-requires : goal.unreachable-requires
unreachable-requires c = let (i, s, is) = order_one c.args.tree.now c.requires in c.in_default.not-Variant i s is

pub returns-clause-is : goal.returns-clause-is
returns-clause-is c = (order_at c.args.tree.now c.in-Variant.place c.in-Variant.field-1 c.requires c.in-Variant.is).1

pub returns-clause-below : goal.returns-clause-below
returns-clause-below c = (order_at c.args.tree.now c.in-Variant.place c.in-Variant.field-1 c.requires c.in-Variant.is).0
