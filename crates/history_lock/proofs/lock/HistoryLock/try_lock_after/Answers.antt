use Rattle.std.proofs.Common.{◌∙◌, sym}
use Rattle.history_lock.proofs.LockSteps.{tries_again, has_place}
use Rattle.history_lock.proofs.lock.HistoryLock.try_lock_after.Goals as goal

pub swap-found-requires : goal.swap-found-requires
swap-found-requires g c =
    let seat = c.into_seat-seat.ensures in
    let tried = tries_again g.L.Law.leaves _ c.self.inside.table.shared.table_id.slots c.into_seat-seat.result.id
    c.into_seat-seat.result.me c.self.invariant.0 seat.passing.0 seat.passing.1 in
    (seat.table ∙ c.requires ∙ sym c.self.view_is, tried.0, tried.1)

pub exchange-requires : goal.exchange-requires
exchange-requires g c =
    let has = c.swap-found.ensures.2.0 c.if-found-ne-FREE.false in
    (c.swap-found.ensures.0 ∙ c.into_seat-seat.ensures.table ∙ c.requires ∙ sym c.self.view_is, has_place _ has.0 has.1.carries)
