use Rattle.pool_parts.proofs.PageOrder.{return_is_later}
use Rattle.test_pages.proofs.page.histories.owned_returned.Goals as goal

pub returns : goal.returns
returns g c = return_is_later _ _ c.free.ensures.returned
