use Rattle.result_pages.proofs.Orders.{order_each}
use Rattle.result_pages.proofs.pagination_order.PaginationOrderApiType.fits.Goals as goal

pub returns : goal.returns
returns c = rw (← c.place.ensures.is) (order_each c.place.result c.place.ensures.below)
