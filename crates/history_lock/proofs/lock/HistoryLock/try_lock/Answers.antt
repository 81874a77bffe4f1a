use Rattle.history_lock.proofs.LockSteps.{tries, has_place}
use Rattle.history_lock.proofs.lock.HistoryLock.try_lock.Goals as goal

pub swap_new_seat-found-requires : goal.swap_new_seat-found-requires
swap_new_seat-found-requires g c = tries g.L.Law.leaves _ _ c.self.invariant.0

pub exchange-requires : goal.exchange-requires
exchange-requires g c =
    let has = c.swap_new_seat-found.ensures.1.0 c.if-found-ne-FREE.false in
    (c.swap_new_seat-found.ensures.0, has_place _ has.0 has.1.carries)
