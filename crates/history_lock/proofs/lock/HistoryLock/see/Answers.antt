use Rattle.history_lock.proofs.LockSteps.{looks_first}
use Rattle.history_lock.proofs.lock.HistoryLock.see.Goals as goal

pub load_new_seat-seat-requires : goal.load_new_seat-seat-requires
load_new_seat-seat-requires g c = looks_first g.L.Law.leaves _ _ c.self.invariant.0
