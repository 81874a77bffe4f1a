use Rattle.history_lock.proofs.LockSteps.{opens}
use Rattle.history_lock.proofs.lock.HistoryLock.new.Goals as goal

pub new-requires : goal.new-requires
new-requires g c = opens g.L.Law.leaves _ _ c.in_ok-places.ensures.row c.requires.opens
