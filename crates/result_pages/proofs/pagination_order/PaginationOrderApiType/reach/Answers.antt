use Rattle.result_pages.proofs.Orders.{order_reaches}
use Rattle.result_pages.proofs.pagination_order.PaginationOrderApiType.reach.Goals as goal

pub returns : goal.returns
returns c = order_reaches
