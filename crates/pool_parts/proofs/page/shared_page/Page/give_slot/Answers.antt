use Rattle.std.proofs.Common.{refl}
use Rattle.pool_parts.proofs.PageAnswers.{returned}
use Rattle.pool_parts.proofs.page.shared_page.Page.give_slot.Goals as goal

pub returns-clause-returned : goal.returns-clause-returned
returns-clause-returned g c =
    rw (← c.slot.view_is) (returned _ _ _ _ _ _ refl c.give-seat.ensures.items c.give-seat.ensures.returned)
