use Rattle.pool_parts.proofs.PageOrder.{pull_is_later}
use Rattle.test_pages.proofs.page.histories.pulled_after.Goals as goal

pub returns-in-Ok-Slot-clause-after : goal.returns-in-Ok-Slot-clause-after
returns-in-Ok-Slot-clause-after c = let is = rw c.in-Ok-Slot.field-0-is at c.in-Ok-Slot.ensures.answer in pull_is_later
    _ _ _ is.1
